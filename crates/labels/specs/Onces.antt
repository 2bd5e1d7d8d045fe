-- The once-only label.
use Rattle.std.specs.Prelude.{Bool, cond, ◌&&◌, None, Option}
use Rattle.std.specs.Option.{option_map}
use Rattle.labels.specs.Kinds.{Kind}
use Rattle.labels.specs.Plains.{plain_kind, plain_extend, plain_covers}
use Rattle.labels.specs.Sets.{no_nodes, has, adding, within}
use Rattle.labels.specs.declared.node_set.NodeSet.{NodeSet}
use Rattle.labels.specs.declared.once.Once.{Once}
use Rattle.labels.specs.declared.plain.Plain.{Plain}
use Rattle.labels.specs.declared.step.Step.{Step}

abbrev pub once_label : NodeSet → Plain → Once
once_label visited x = record { plain = x; visited = visited }

-- the label that x becomes along s, of this plain label: it has visited the head too
abbrev pub visiting : Once → Step → Plain → Once
visiting x s = once_label (adding x.visited s.head)

-- as the plain label, but never back to a node that was visited
abbrev pub once_extend : Once → Step → Option Once
once_extend x s = cond (has x.visited s.head) None (option_map (visiting x s) (plain_extend x.plain s))

-- neither later nor dearer, and all it has visited the other has visited
abbrev pub once_covers : Once → Once → Bool
once_covers x y = plain_covers x.plain y.plain && within x.visited y.visited

abbrev pub once_kind : Kind Once
once_kind = record {
  start = λ opens depot. once_label (adding no_nodes depot) (plain_kind.start opens depot);
  extend = once_extend;
  covers = once_covers;
  time = λ x. x.plain.time;
  cost = λ x. x.plain.cost;
}
