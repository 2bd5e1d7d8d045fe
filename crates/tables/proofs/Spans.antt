-- The row of a node is a part of the legs.
use Rattle.std.proofs.Common.{◌≡◌, ℕ, zero, suc, ◌+◌, ◌-◌, ◌<◌, ◌≤◌, List, ◌∷◌, map, length, get_or, take, drop, sym, refl, ap, ◌∙◌, add-one, arith, drop-cons}
use Rattle.std.specs.List.{range_with_len}
use Rattle.network.specs.Meaning.{no_leg}
use Rattle.network.specs.Rows.{legs_from}
use Rattle.network.proofs.Starts.{start_rises}
use Rattle.tables.specs.declared.source.TableSource.{TableSource}
use Rattle.tables.specs.Tables.{leg_at, first_leg_of, row_of}
use Rattle.tables.specs.Lawful.{header, ordered, start_within}
use Rattle.tables.specs.Source.{start_in, IsSpan}

pub is_span : (s : TableSource) (i start end : ℕ) → i < length s.nodes.now → start ≡ start_in s i → end ≡ start_in s (i + 1) → IsSpan s i start end
is_span s i start end h starts ends =
    let g = header _ _ _ _ s.sound in
    let rises = start_rises (first_leg_of s.nodes.now) (length s.nodes.now) (length s.legs.now) g.some (ordered _ _ _ _ s.sound) i h in
    let within : start_in s (i + 1) ≤ length s.legs.now = start_within _ _ _ _ s.sound (i + 1) in
    record { starts = starts; ends = ends; rises = omega arith; within = omega arith; few = g.few }

-- the items from a on are a part of the list
counted_part : {X : Type 0} (xs : List X) (a n : ℕ) (d : X) → a + n ≤ length xs → take n (drop a xs) ≡ map (λ j. get_or xs j d) (range_with_len a n)
counted_part xs a zero d h = refl
counted_part xs a (suc n) d h =
    ap (take (suc n)) (drop-cons xs a d (omega arith))
    ∙ ap (λ z. get_or xs a d ∷ take n (drop z xs)) (sym (add-one a))
    ∙ ap (λ z. get_or xs a d ∷ z) (counted_part xs (a + 1) n d (omega arith))

pub row_part : (s : TableSource) (i start end : ℕ) → IsSpan s i start end → take (end - start) (drop start s.legs.now) ≡ row_of s.nodes.now s.legs.now i
row_part s i start end p =
    counted_part s.legs.now start (end - start) no_leg (omega arith)
    ∙ ap (λ z. legs_from (leg_at s.legs.now) z end) p.starts
    ∙ ap (λ z. legs_from (leg_at s.legs.now) (start_in s i) z) p.ends
