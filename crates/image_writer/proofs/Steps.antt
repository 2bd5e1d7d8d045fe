-- One more record, block, row or leg.
use Rattle.std.proofs.Common.{◌≡◌, ℕ, zero, suc, ◌+◌, ◌*◌, ◌<◌, ◌≤◌, Bool, true, false, ltb, List, [], ◌∷◌, ◌++◌, length, get_or, take, drop, Some, None, Ok, Err, Option, Result, sym, refl, ap, ◌∙◌, ⊎_elim, add-one, arith, length-append, length-drop}
use borrow.Rule.Slice.PartMut.{put_mid}
use Rattle.std.specs.Option.{option_map, option_or}
use Rattle.std.proofs.lemmas.List.{append_assoc}
use Rattle.std.proofs.lemmas.Bool.{cases_eq, cases_lt, cond-true, lt-ltb}
use Rattle.std.specs.Result.{result_unwrap_or}
use Rattle.network.specs.Answers.{length_answer, leg_answer, row_leg}
use Rattle.network.specs.declared.fault.NetworkFault.{NetworkFault}
use Rattle.network.proofs.Legs.{leg_tells}
use Rattle.network.proofs.Facts.{at_node_lem, length_tells, refusal_tells}
use Rattle.network.specs.Meaning.{Net, Row, legs_row, unreadable_row, legs_of, fault_in, legs_at, all_legs, no_leg}
use Rattle.network.specs.Lawful.{Lawful}
use Rattle.network.specs.Refusals.{NetworkRefusal, unreadable, told}
use Rattle.network.specs.Pile.{pile}
use Rattle.network.specs.declared.leg.Leg.{Leg}
use Rattle.network.specs.First.{unless, first_of}
use Rattle.blocks.specs.Tables.{blocks_for, in_block, table_block}
use Rattle.blocks.specs.Blocks.{finished, start_bytes}
use Rattle.image_format.specs.declared.header.Header.{Header}
use Rattle.image_format.specs.Encode.{header_of, header_bytes, header_block, node_table, leg_table, leg_count, first_of_node, leg_bytes, leg_bytes_at, encoded, encoded_size}
use Rattle.image_format.proofs.Back.{header_long, nodes_long, legs_long, first_grows, first_next}
use Rattle.blocks.proofs.Chunked.{chunks12, table_block_length}
use Rattle.network.proofs.Piles.{length-pile, pile_item, pile_grows}
use Rattle.network.proofs.Firsts.{first_here}
use Rattle.blocks.specs.Over.{over}
use Rattle.image_writer.specs.Order.{records_from}
use Rattle.image_writer.proofs.Order.{one_more, no_more}
use Rattle.image_writer.specs.declared.fault.WriteFault.TheVariants.{CostTooLarge}
use Rattle.image_writer.specs.Write.{unread_at, holds_legs, dear_at, dear_fault, write_refusal, answer_by, count_answer, leg_records_from, cost_too_large}
use Rattle.blocks.proofs.Overs.{next, grow, part_over, top_over}

-- rows
pub total_fits : (N : Net) (i : ℕ) → Lawful N → i < N.n → first_of_node N i + length (legs_at N i) ≤ 20000
total_fits N i w h = let a = first_grows N i h in omega (arith, w.few)

pub row_unread : (N : Net) (i : ℕ) (r : NetworkRefusal) → i < N.n → unread_at N i ≡ Some r → first_of (unread_at N) i ≡ None → Err r ≡ count_answer N
row_unread N i r h e f = sym (ap (λ o. answer_by o (leg_count N)) (first_here (unread_at N) i N.n r h f e))

no_legs : (i : ℕ) (r : NetworkRefusal) (row : Row) → option_map (unreadable i) (fault_in row) ≡ Some r → 0 ≡ length (legs_of row)
no_legs i r (legs_row ls) e = let z : ◌≡◌ {A = ℕ} 0 1 = cc in absurd (omega arith)
no_legs i r (unreadable_row f) e = refl

-- the length of a row that cannot be read is 0
pub row_count : (N : Net) (i : ℕ) (r : Result ℕ NetworkFault) → i < N.n → told r ≡ length_answer N i → result_unwrap_or r 0 ≡ length (legs_at N i)
row_count N i (Ok len) h e = (length_tells N i len h e).1
row_count N i (Err f) h e = no_legs i _ (N.row i) (refusal_tells N i _ h e)

-- costs
map_or : {X Y : Type 0} (f : X → Y) (o p : Option X) → option_map f (option_or o p) ≡ option_or (option_map f o) (option_map f p)
map_or f None p = refl
map_or f (Some x) p = refl

dear_same : (i : ℕ) (b : Bool) → option_map write_refusal (unless b (CostTooLarge i)) ≡ unless b (cost_too_large i)
dear_same i true = refl
dear_same i false = refl

pub first_dear : (N : Net) (n : ℕ) → option_map write_refusal (first_of (dear_fault N) n) ≡ first_of (dear_at N) n
first_dear N zero = refl
first_dear N (suc n) =
    map_or write_refusal (first_of (dear_fault N) n) (dear_fault N n)
    ∙ ap (λ o. option_or o (option_map write_refusal (dear_fault N n))) (first_dear N n)
    ∙ ap (option_or (first_of (dear_at N) n)) (dear_same n (holds_legs (legs_at N n)))

-- one more record, in a part of w bytes, in a block that begins with `front`
pub record_more : (front block t : List ℕ) (f : ℕ → List ℕ) (r w : ℕ) → r < 42 → length block ≡ 512 → length t ≡ 12 → w ≡ 12 → t ≡ f r → take (4 + 12 * r) block ≡ front ++ pile f r → take (4 + 12 * (r + 1)) (put_mid (4 + 12 * r) w block t) ≡ front ++ pile f (r + 1)
record_more front block t f r w h l m v e i =
    let n : pile f (r + 1) ≡ pile f r ++ f r = ap (pile f) (add-one r) in
    next block (put_mid (4 + 12 * r) w block t) (front ++ pile f r) (4 + 12 * r) t (4 + 12 * (r + 1)) (part_over block (4 + 12 * r) w t (m ∙ sym v)) i (omega arith) (omega arith)
    ∙ append_assoc front (pile f r) t ∙ ap (λ z. front ++ (pile f r ++ z)) e ∙ ap (λ z. front ++ z) (sym n)

-- a finished block of a table
pub record_block : (kind base n k number count r : ℕ) (f : ℕ → List ℕ) (block out : List ℕ) → out ≡ finished (take (4 + 12 * count) block) → number ≡ base + k → count ≡ in_block 42 n k → r ≡ count → take (4 + 12 * r) block ≡ start_bytes kind number ++ pile (λ q. f (42 * k + q)) r → out ≡ table_block 42 kind base f n k
unfolding table_block
record_block kind base n k number count r f block out o a b e i =
    o ∙ ap finished
    (ap (λ z. take (4 + 12 * z) block) (sym e) ∙ i ∙ ap (λ z. start_bytes kind number ++ pile (λ q. f (42 * k + q)) z) (e ∙ b)
    ∙ ap (λ z. start_bytes kind z ++ pile (λ q. f (42 * k + q)) (in_block 42 n k)) a)

-- a table of blocks
table_long : (kind base n : ℕ) (f : ℕ → List ℕ) → ((i : ℕ) → length (f i) ≡ 12) → (k : ℕ) → length (pile (table_block 42 kind base f n) k) ≡ 512 * k
table_long kind base n f each k = length-pile (table_block 42 kind base f n) 512 k (λ j h. table_block_length 12 42 chunks12 kind base n f each j)

-- one more block
pub block_more : (kind base n : ℕ) (f : ℕ → List ℕ) (d out block : List ℕ) (k w : ℕ) → ((i : ℕ) → length (f i) ≡ 12) → 512 * (base + k) + 512 ≤ length d → w ≡ 512 → block ≡ table_block 42 kind base f n k → out ≡ over d (512 * base) (pile (table_block 42 kind base f n) k) → put_mid (512 * (base + k)) w out block ≡ over d (512 * base) (pile (table_block 42 kind base f n) (k + 1))
block_more kind base n f d out block k w each room v b o =
    let t : ℕ → List ℕ = table_block 42 kind base f n in
    let long : length (pile t k) ≡ 512 * k = table_long kind base n f each k in
    let l : length block ≡ 512 = ap length b ∙ table_block_length 12 42 chunks12 kind base n f each k in
    let p : put_mid (512 * (base + k)) w out block ≡ over out (512 * (base + k)) block = part_over out (512 * (base + k)) w block (l ∙ sym v) in
    let m : pile t (k + 1) ≡ pile t k ++ t k = ap (pile t) (add-one k) in
    grow d out _ (512 * base) (pile t k) block (512 * (base + k)) o p (omega arith) (omega arith)
    ∙ ap (over d (512 * base)) (ap (λ z. pile t k ++ z) b ∙ sym m)

-- legs
row_ends : (i k : ℕ) (row : Row) (r : NetworkRefusal) → Err r ≡ row_leg i k row → length (legs_of row) ≤ k
row_ends i k (legs_row ls) r e =
    ⊎_elim
    (λ (q : k < length ls). let f = e ∙ cond-true (ltb k (length ls)) _ _ (lt-ltb k (length ls) q) in let z : ◌≡◌ {A = ℕ} 0 1 = cc in absurd (omega arith))
    (λ (q : length ls ≤ k). q)
    (cases_lt k (length ls))
row_ends i k (unreadable_row f) r e = omega arith

-- leg k of node i is given: its record comes, and then those of the legs after it
pub leg_given : (N : Net) (i k : ℕ) (l : Leg) → i < N.n → Ok l ≡ leg_answer N i k → (k < length (legs_at N i)) × (leg_records_from N i k ≡ leg_bytes l ∷ leg_records_from N i (k + 1))
leg_given N i k l h e =
    let w = leg_tells N i k l e in
    let t : get_or (all_legs N) (first_of_node N i + k) no_leg ≡ get_or (legs_at N i) k no_leg = pile_item (legs_at N) N.n i k no_leg h w.1 in
    let b = first_grows N i h in
    let x : leg_bytes_at N (first_of_node N i + k) ≡ leg_bytes l = ap leg_bytes (t ∙ sym w.2) in
    (w.1, one_more (leg_bytes_at N) (leg_count N) (first_of_node N i + k) (first_of_node N i + (k + 1)) (omega arith) (omega arith) ∙ ap (λ z. z ∷ leg_records_from N i (k + 1)) x)

-- no leg k of node i: the legs of the next node follow
pub row_ended : (N : Net) (i k : ℕ) (r : NetworkRefusal) → i < N.n → k ≤ length (legs_at N i) → Err r ≡ leg_answer N i k → leg_records_from N i k ≡ leg_records_from N (i + 1) 0
row_ended N i k r h w e =
    let l = row_ends i k (N.row i) r (e ∙ at_node_lem N i _ h) in
    let n = first_next N i in
    let j : first_of_node N i + k ≡ first_of_node N (i + 1) + 0 = omega arith in
    ap (records_from (leg_bytes_at N) (leg_count N)) j

-- behind the last node none is left
pub legs_ended : (N : Net) (i k : ℕ) → N.n ≤ i → leg_records_from N i k ≡ []
legs_ended N i k h =
    let g : leg_count N ≤ first_of_node N i =
    ⊎_elim
    (λ (q : N.n ≡ i). let e = ap (first_of_node N) q in omega arith)
    (λ (q : N.n ≡ i → ⊥). let p = pile_grows (legs_at N) N.n i (omega arith) in omega arith)
    (cases_eq N.n i) in
    no_more (leg_bytes_at N) (leg_count N) (first_of_node N i + k) (omega arith)

-- the parts of an image: d once its header is written
pub record TopPut (N : Net) (h : Header) (block d : List ℕ) : Type 0 where
  pub nodes : h.nodes ≡ N.n
  pub legs : h.legs ≡ leg_count N
  pub over : block ++ drop 512 d ≡ over d 0 (header_block N)
  pub long : length (block ++ drop 512 d) ≡ length d

pub top_put : (N : Net) (h : Header) (block d : List ℕ) → h ≡ header_of N → block ≡ finished (start_bytes 1 0 ++ header_bytes h) → 512 ≤ length d → TopPut N h block d
unfolding header_block
top_put N h block d e b room =
    let p : block ≡ header_block N = b ∙ ap (λ (z : Header). finished (start_bytes 1 0 ++ header_bytes z)) e in
    let l : length block ≡ 512 = ap length p ∙ header_long N in
    record {
      nodes = ap (λ (z : Header). z.nodes) e;
      legs = ap (λ (z : Header). z.legs) e;
      over = top_over d block 512 l ∙ ap (over d 0) p;
      long = simp (length-append, length-drop) (omega arith);
    }

pub tables_put : (N : Net) (d top mid out : List ℕ) → top ≡ over d 0 (header_block N) → mid ≡ over top 512 (node_table N) → out ≡ over mid (512 * (1 + blocks_for 42 N.n)) (leg_table N) → encoded_size N ≤ length d → out ≡ over d 0 (encoded N)
unfolding encoded
tables_put N d top mid out t m o room =
    let P : List ℕ = node_table N in
    let L : List ℕ = leg_table N in
    let H : List ℕ = header_block N in
    let lh : length H ≡ 512 = header_long N in
    let lp : length P ≡ 512 * blocks_for 42 N.n = nodes_long N in
    let ll : length L ≡ 512 * blocks_for 42 (leg_count N) = legs_long N in
    let lhp : length (H ++ P) ≡ length H + length P = length-append H P in
    let x = grow d top mid 0 H P 512 t m (omega arith) (omega arith) in
    grow d mid out 0 (H ++ P) L (512 * (1 + blocks_for 42 N.n)) x o (omega arith) (omega arith) ∙ ap (over d 0) (append_assoc H P L)

-- what counting told
pub answer_tells : {X : Type 0} (o : Option NetworkRefusal) (x y : X) → Ok x ≡ answer_by o y → (o ≡ None) × (x ≡ y)
answer_tells None x y e = (refl, cc e)
answer_tells (Some f) x y e = let z : ◌≡◌ {A = ℕ} 0 1 = cc in absurd (omega arith)

pub refusal_is : {X : Type 0} (o : Option NetworkRefusal) (r : NetworkRefusal) (y : X) → Err r ≡ answer_by o y → o ≡ Some r
refusal_is None r y e = let z : ◌≡◌ {A = ℕ} 0 1 = cc in absurd (omega arith)
refusal_is (Some f) r y e = let z : f ≡ r = cc e in ap Some z

pub unmapped : {X Y : Type 0} (f : X → Y) (o : Option X) → option_map f o ≡ None → o ≡ None
unmapped f None e = refl
unmapped f (Some x) e = let z : ◌≡◌ {A = ℕ} 0 1 = cc in absurd (omega arith)
