-- The extent of a contig and the counts of its windows, record by record, are those of the definitions: `extent_along`, `windows_along_lem`.
use Prim.Native.Nat.{◌*◌, ◌+◌, ◌-◌, ◌/◌, ◌<◌, ◌≤◌, suc, zero, ℕ}
use borrow.Author.Tests.{lt-ltb}
use lib.Dec.{ltb}
use lib.ListN.{get_or, length}
use mathlib.Core.Bool.{Bool, ◌&&◌, cond, false, true}
use mathlib.Core.List.{List, [], ◌∷◌, foldr, map}
use mathlib.Core.Option.{Option, none, some}
use mathlib.Core.Path.{◌∙◌, ◌≡◌, ap, ap₂, refl, sym}
use native.Mathlib.Nat.{add_assoc, add-zero, zero-add}
use native.Mathlib.Omega.{arith}
use Rattle.definitions.specs.Bytes.{same_bytes}
use Rattle.definitions.specs.DepthWindows.{deep_at, deep_positions, first_position, is_deep, last_position, overlap, records_on, window_starts, windows_over}
use Rattle.definitions.specs.Genotypes.{missing_data}
use Rattle.definitions.specs.Lists.{any_of, filter_by, numbers_from}
use Rattle.definitions.specs.Records.{Record, record_end}
use Rattle.laws.proofs.DepthWindows.{Apart, deep_overlap, depth_by_overlap, first_position_lem}
use Rattle.laws.proofs.Every.{every_all, every_of_map, every_or, every_uncons, map_every, pairwise_head, pairwise_tail}
use Rattle.laws.proofs.Members.{filter_few, length_numbers}
use Rattle.window_counts.specs.Along.{Span, along, counts_with, span_with, wider, zeros}
use Rattle.window_counts.specs.Counts.{CountsSmall, with_stretch}
use Rattle.window_counts.specs.declared.Windows.{Windows}

-- ---- the extent

-- with the records of a contig alone
abbrev widened : Option Span → Record → Option Span
widened span r = wider span r.pos (record_end r)

on_contig_lem : (contig : List ℕ) (span : Option Span) (list : List Record) → along (span_with contig) span list ≡ along widened span (records_on contig list)
unfolding along span_with records_on filter_by
on_contig_lem contig span [] = refl
on_contig_lem contig span (r ∷ list) = go (same_bytes contig r.contig) (λ span. on_contig_lem contig span list)
  where
    go : (b : Bool) → ((span : Option Span) → along (span_with contig) span list ≡ along widened span (records_on contig list))
        → along (span_with contig) (cond b (wider span r.pos (record_end r)) span) list
        ≡ along widened span (cond b (r ∷ records_on contig list) (records_on contig list))
    go true ih = ih _
    go false ih = ih _

-- the end of the last record
abbrev last_end : ℕ → List Record → ℕ
last_end last [] = last
last_end last (r ∷ rs) = last_end (record_end r) rs

to_last : (first last : ℕ) (rs : List Record)
    → along widened (some (record { first = first; last = last })) rs ≡ some (record { first = first; last = last_end last rs })
unfolding along
to_last first last [] = refl
to_last first last (r ∷ rs) = to_last first (record_end r) rs

last_end_lem : (r : Record) (rs : List Record) → Apart (r ∷ rs) → last_position (r ∷ rs) ≡ last_end (record_end r) rs
unfolding last_position
last_end_lem r [] h = omega arith
last_end_lem r (s ∷ rs) h =
    let after = (every_uncons (pairwise_head h.in_order_lem)).0 in
    let ends = (every_uncons (every_uncons h.each).1).0 in
    let later : Apart (s ∷ rs) = record { each = (every_uncons h.each).1; in_order_lem = pairwise_tail h.in_order_lem } in
    let ih = last_end_lem s rs later in
    omega arith

-- the extent of a contig's records
unfoldable pub extent_of : List Record → Option Span
extent_of [] = none
extent_of (r ∷ rs) = some (record { first = first_position (r ∷ rs); last = last_position (r ∷ rs) })

pub extent_along : (contig : List ℕ) (list : List Record) → Apart (records_on contig list)
    → along (span_with contig) none list ≡ extent_of (records_on contig list)
unfolding along extent_of
extent_along contig list apart = on_contig_lem contig none list ∙ go (records_on contig list) apart
  where
    go : (here : List Record) → Apart here → along widened none here ≡ extent_of here
    go [] h = refl
    go (r ∷ rs) h =
        to_last r.pos (record_end r) rs
        ∙ ap₂ (λ (a b : ℕ). some (record { first = a; last = b })) (sym (first_position_lem r rs h)) (sym (last_end_lem r rs h))

-- ---- the counts

-- counts of windows, the first of which begins here, with an amount for each window added
abbrev add_each : (ℕ → ℕ) → ℕ → ℕ → List ℕ → List ℕ
add_each amount step begin [] = []
add_each amount step begin (c ∷ counts) = (c + amount begin) ∷ add_each amount step (begin + step) counts

add_same : (f g : ℕ → ℕ) → ((b : ℕ) → f b ≡ g b) → (step begin : ℕ) (counts : List ℕ) → add_each f step begin counts ≡ add_each g step begin counts
add_same f g h step begin [] = refl
add_same f g h step begin (c ∷ counts) = ap₂ ◌∷◌ (ap (λ (n : ℕ). c + n) (h begin)) (add_same f g h step (begin + step) counts)

add_nothing : (step begin : ℕ) (counts : List ℕ) → counts ≡ add_each (λ b. 0) step begin counts
add_nothing step begin [] = refl
add_nothing step begin (c ∷ counts) = ap₂ ◌∷◌ (sym (add-zero c)) (add_nothing step (begin + step) counts)

-- a stretch is added, and then amounts
add_stretched : (start end size : ℕ) (f : ℕ → ℕ) (step begin : ℕ) (counts : List ℕ)
    → add_each f step begin (with_stretch start end size step begin counts) ≡ add_each (λ b. overlap start end size b + f b) step begin counts
unfolding with_stretch
add_stretched start end size f step begin [] = refl
add_stretched start end size f step begin (c ∷ counts) =
    ap₂ ◌∷◌ (add_assoc c (overlap start end size begin) (f begin)) (add_stretched start end size f step (begin + step) counts)

-- no count gets smaller
add_more : (f : ℕ → ℕ) (step begin : ℕ) (counts : List ℕ) (k : ℕ) → get_or counts k 0 ≤ get_or (add_each f step begin counts) k 0
add_more f step begin [] k = omega arith
add_more f step begin (c ∷ counts) zero = omega arith
add_more f step begin (c ∷ counts) (suc k) = add_more f step (begin + step) counts k

add_length : (f : ℕ → ℕ) (step begin : ℕ) (counts : List ℕ) → length (add_each f step begin counts) ≡ length counts
add_length f step begin [] = refl
add_length f step begin (c ∷ counts) = ap suc (add_length f step (begin + step) counts)

-- what records add to a window
abbrev depth_sum : ℕ → ℕ → ℕ → List Record → ℕ → ℕ
depth_sum sample threshold size here begin = foldr (λ r n. deep_overlap sample threshold begin size r + n) 0 here

module _ (contig : List ℕ) (sample threshold : ℕ) (w : Windows) where
  -- the amounts of the contig's records, all at once
  counts_along_lem : (list : List Record) (counts : List ℕ) → along (counts_with contig sample threshold w) counts list
      ≡ add_each (depth_sum sample threshold w.size (records_on contig list)) w.step w.first.0 counts
  unfolding along counts_with records_on filter_by deep_overlap
  counts_along_lem [] counts = add_nothing w.step w.first.0 counts
  counts_along_lem (r ∷ list) counts =
      go (same_bytes contig r.contig) (is_deep threshold (get_or r.sample_data sample missing_data).dp) refl (λ counts. counts_along_lem list counts)
    where
      sum : ℕ → ℕ
      sum = depth_sum sample threshold w.size (records_on contig list)

      with_r : Bool → ℕ → ℕ
      with_r b begin = cond b (overlap r.pos (record_end r) w.size begin) 0 + sum begin

      go : (on deep : Bool) → is_deep threshold (get_or r.sample_data sample missing_data).dp ≡ deep
          → ((counts : List ℕ) → along (counts_with contig sample threshold w) counts list ≡ add_each sum w.step w.first.0 counts)
          → along (counts_with contig sample threshold w)
          (cond (on && deep) (with_stretch r.pos (record_end r) w.size w.step w.first.0 counts) counts) list
          ≡ add_each (depth_sum sample threshold w.size (cond on (r ∷ records_on contig list) (records_on contig list))) w.step w.first.0 counts
      go true true e ih =
          ih _ ∙ add_stretched r.pos (record_end r) w.size sum w.step w.first.0 counts
          ∙ add_same (with_r true) _ (λ b. rw e) w.step w.first.0 counts
      go true false e ih = ih counts ∙ add_same sum _ (λ b. rw e (sym (zero-add (sum b)))) w.step w.first.0 counts
      go false true e ih = ih counts
      go false false e ih = ih counts

  -- the counts that are left to come are no smaller, and as many
  pub along_small : (counts : List ℕ) (list : List Record) → CountsSmall (along (counts_with contig sample threshold w) counts list)
      → CountsSmall counts
  along_small counts list h k =
      let sum = depth_sum sample threshold w.size (records_on contig list) in
      omega (arith, h k, ap (λ (l : List ℕ). get_or l k 0) (counts_along_lem list counts), add_more sum w.step w.first.0 counts k)

  pub along_length : (counts : List ℕ) (list : List Record)
      → length (along (counts_with contig sample threshold w) counts list) ≡ length counts
  along_length counts list = ap length (counts_along_lem list counts) ∙ add_length _ w.step w.first.0 counts

-- ---- from no counts: the windows

add_zeros : (f : ℕ → ℕ) (first step k n : ℕ)
    → add_each f step (first + k * step) (zeros n) ≡ map f (map (λ j. first + j * step) (numbers_from k n))
unfolding zeros numbers_from
add_zeros f first step k zero = refl
add_zeros f first step k (suc n) =
    let next : first + k * step + step ≡ first + suc k * step = omega arith in
    ap₂ ◌∷◌ (zero-add (f (first + k * step))) (ap (λ (b : ℕ). add_each f step b (zeros n)) next ∙ add_zeros f first step (suc k) n)

module _ (contig : List ℕ) (sample threshold : ℕ) (w : Windows) (list : List Record) where
  pub windows_along_lem : Apart (records_on contig list) → 0 < length (records_on contig list) → w.first.0 ≡ first_position (records_on contig list)
      → (last : ℕ) → last ≡ last_position (records_on contig list)
      → along (counts_with contig sample threshold w) (zeros (suc ((last - w.first.0) / w.step))) list
      ≡ windows_over (records_on contig list) sample threshold w.size w.step
  unfolding windows_over window_starts
  windows_along_lem apart some_there begins last ends =
      let here = records_on contig list in
      let n = suc ((last - w.first.0) / w.step) in
      let sum = depth_sum sample threshold w.size here in
      let start : w.first.0 ≡ w.first.0 + 0 * w.step = omega arith in
      counts_along_lem contig sample threshold w list (zeros n)
      ∙ ap (λ (b : ℕ). add_each sum w.step b (zeros n)) start
      ∙ add_zeros sum w.first.0 w.step 0 n
      ∙ map_every {l = map (λ j. w.first.0 + j * w.step) (numbers_from 0 n)}
      (every_all (λ b. sym (depth_by_overlap sample threshold w.size b here apart)) _)
      ∙ rw (lt-ltb 0 (length here) some_there, begins, ends)

-- a count has at most the window's positions
pub windows_small : (here : List Record) (sample threshold size step : ℕ) → (k : ℕ) → get_or (windows_over here sample threshold size step) k 0 ≤ size
unfolding windows_over deep_positions
windows_small here sample threshold size step k = go (ltb 0 (length here))
  where
    few : (begin : ℕ) → deep_positions here sample threshold size begin ≤ size
    few begin =
        let fewer = filter_few (λ p. any_of (deep_at sample threshold p) here) (numbers_from begin size) in
        omega (arith, fewer, length_numbers begin size)

    go : (b : Bool) → get_or (cond b (map (deep_positions here sample threshold size) (window_starts step (first_position here) (last_position here))) []) k 0 ≤ size
    go false = omega arith
    go true = every_or {A = ℕ} {P = λ n. n ≤ size} k 0 (omega arith) (every_of_map (deep_positions here sample threshold size) (every_all few (window_starts step (first_position here) (last_position here))))
