-- How many clip spans cover a position. From a breakpoint to the next the depth goes up by the spans that start there and down by
-- those that end before it (`depth_step`), and an interval lies in the clip exactly if some span covers its first position (`in_clip_lem`).
use Prim.Native.Nat.{◌+◌, ◌-◌, ◌<◌, ◌≤◌, compare, suc, ℕ}
use borrow.Author.Tests.{eq-eqb, le-leb, leb-true, lt-leb, lt-ltb, ne_eqb}
use lib.Dec.{eqb, leb, ltb}
use lib.ListN.{length}
use mathlib.Core.Bool.{Bool, ◌&&◌, ◌||◌, cond, false, not, true}
use mathlib.Core.List.Memᴰ
use mathlib.Core.List.{List, [], ◌++◌, ◌∷◌, flat_map}
use mathlib.Core.Option.{Option, none, some}
use mathlib.Core.Path.{◌∙◌, ◌≡◌, ap, refl, sym}
use native.Mathlib.Decide.{dec_lt, ℕ_discrete}
use native.Mathlib.Omega.{arith}
use Rattle.definitions.specs.ClipAndReference.{Span}
use Rattle.definitions.specs.Cohort.{Site}
use Rattle.definitions.specs.Intervals.{breakpoints, in_clip, site_breakpoints, sites_on, span_breakpoints, spans_on}
use Rattle.definitions.specs.Lists.{any_of, ascending, filter_by, is_there}
use Rattle.laws.proofs.Every.{Every, IfThere, Pairwise, also, every_both, every_filter, every_map, every_member, every_of, nothing}
use Rattle.laws.proofs.Members.{◌∈◌, filter_few, filter_none, filter_same, flat_map_member}
use Rattle.laws.proofs.Orders.{ascending_member, ascending_numbers, compare_eq}
use Rattle.laws.proofs.SoundInput.{SoundSpan}
use Rattle.laws.proofs.Tests.{bool_ext}
use Rattle.laws.proofs.Windows.{next_later, next_least}

-- the span covers the position
unfoldable pub covers : ℕ → Span → Bool
covers p c = leb c.start p && leb p c.end

-- how many spans cover a position
unfoldable pub depth : List Span → ℕ → ℕ
depth spans p = length (filter_by (covers p) spans)

-- how many spans start at a position
unfoldable pub begun : List Span → ℕ → ℕ
begun spans p = length (filter_by (λ c. eqb c.start p) spans)

-- how many spans end just before a position
unfoldable pub ended : List Span → ℕ → ℕ
ended spans p = length (filter_by (λ c. eqb (suc c.end) p) spans)

-- the start and end + 1 of each span are among these numbers
abbrev pub Bounded : List ℕ → List Span → Type 0
Bounded all = Every (λ c. (c.start ∈ all) × (suc c.end ∈ all))

-- ---- counts

-- 1 for a test that passes
abbrev pub one : Bool → ℕ
one b = cond b 1 0

module _ {A : Type 0} where
  -- some element passes exactly if their number is above 0
  any_count : (p : A → Bool) (l : List A) → any_of p l ≡ ltb 0 (length (filter_by p l))
  unfolding any_of filter_by
  any_count p [] = refl
  any_count p (x ∷ l) = go (p x) (any_count p l)
    where
      go : (b : Bool) → any_of p l ≡ ltb 0 (length (filter_by p l))
          → b || any_of p l ≡ ltb 0 (length (cond b (x ∷ filter_by p l) (filter_by p l)))
      go true r = sym (lt-ltb 0 (suc (length (filter_by p l))) (omega arith))
      go false r = r

  pub count_cons : (p : A → Bool) (x : A) (l : List A) → length (filter_by p (x ∷ l)) ≡ one (p x) + length (filter_by p l)
  unfolding filter_by
  count_cons p x l = go (p x)
    where
      go : (b : Bool) → length (cond b (x ∷ filter_by p l) (filter_by p l)) ≡ one b + length (filter_by p l)
      go true = omega arith
      go false = omega arith

  -- of each element as many pass the first two tests as the last two: then so it is of all
  counts_agree : (p q r s : A → Bool) {l : List A} → Every (λ x. one (p x) + one (q x) ≡ one (r x) + one (s x)) l
      → length (filter_by p l) + length (filter_by q l) ≡ length (filter_by r l) + length (filter_by s l)
  counts_agree p q r s nothing = unfold filter_by in refl
  counts_agree p q r s (also {x = x} {xs = l} h hs) =
      rw (count_cons p x l, count_cons q x l, count_cons r x l, count_cons s x l)
      (omega (arith, counts_agree p q r s hs))

-- ---- from a breakpoint to the next

-- a span with neither its start nor its end + 1 between two positions
span_step : (start end past b : ℕ) → start ≤ end → past < b → (past < start → b ≤ start) → (past < suc end → b ≤ suc end)
    → one (leb start b && leb b end) + one (eqb (suc end) b) ≡ one (leb start past && leb past end) + one (eqb start b)
span_step start end past b h k starts ends = go (dec_lt past start) (ℕ_discrete start b) (dec_lt past (suc end)) (ℕ_discrete (suc end) b)
  where
    go : Dec (past < start) → Dec (start ≡ b) → Dec (past < suc end) → Dec (suc end ≡ b)
        → one (leb start b && leb b end) + one (eqb (suc end) b) ≡ one (leb start past && leb past end) + one (eqb start b)
    go (yes later) (yes e) q r =
        rw (
          le-leb start b (omega arith),
          le-leb b end (omega arith),
          ne_eqb (suc end) b (λ same. omega arith),
          lt-leb start past later,
          eq-eqb start b e,
        )
    go (yes later) (no e) q r =
        let l = starts later in
        rw (lt-leb start b (omega arith), ne_eqb (suc end) b (λ same. omega arith), lt-leb start past later, ne_eqb start b e)
    go (no before) p (yes covering) (yes e) =
        rw (
          lt-leb b end (omega arith),
          le-leb start b (omega arith),
          eq-eqb (suc end) b e,
          le-leb start past (omega arith),
          le-leb past end (omega arith),
          ne_eqb start b (λ same. omega arith),
        )
    go (no before) p (yes covering) (no e) =
        let l = ends covering in
        rw (
          le-leb start b (omega arith),
          le-leb b end (omega arith),
          ne_eqb (suc end) b e,
          le-leb start past (omega arith),
          le-leb past end (omega arith),
          ne_eqb start b (λ same. omega arith),
        )
    go (no before) p (no over) r =
        rw (
          le-leb start b (omega arith),
          lt-leb b end (omega arith),
          ne_eqb (suc end) b (λ same. omega arith),
          le-leb start past (omega arith),
          lt-leb past end (omega arith),
          ne_eqb start b (λ same. omega arith),
        )

module _ {all : List ℕ} (sorted : Pairwise ◌<◌ all) {spans : List Span} (bounded : Bounded all spans) where
  module _ (past b : ℕ) (l : List ℕ) (next : filter_by (ltb past) all ≡ b ∷ l) where
    -- at the next breakpoint the spans that start there come in, and those that end before it go out
    pub depth_step : Every (λ (c : Span). c.start ≤ c.end) spans
        → depth spans b + ended spans b ≡ depth spans past + begun spans b
    unfolding depth ended begun covers
    depth_step whole =
        let least : (a : ℕ) → a ∈ all → past < a → b ≤ a = λ a m k. next_least sorted past b l next m k in
        counts_agree (covers b) (λ c. eqb (suc c.end) b) (covers past) (λ c. eqb c.start b)
        (every_map (λ c h. span_step c.start c.end past b h.1 (next_later sorted past b l next) (least _ h.0.0) (least _ h.0.1))
        (every_both bounded whole))

    -- an interval lies in a span exactly if its first position does
    interval_covered : (c : Span) → suc c.end ∈ all → leb c.start past && leb (b - 1) c.end ≡ covers past c
    unfolding covers
    interval_covered c m =
        let k = next_later sorted past b l next in
        ap (λ (t : Bool). leb c.start past && t) (bool_ext (leb (b - 1) c.end) (leb past c.end)
        (λ e. let q = leb-true (b - 1) c.end e in le-leb past c.end (omega arith))
        (λ e.
        let q = leb-true past c.end e in
        let r = next_least sorted past b l next m (omega arith) in
        le-leb (b - 1) c.end (omega arith)))

    interval_in_spans : any_of (λ c. leb c.start past && leb (b - 1) c.end) spans ≡ ltb 0 (depth spans past)
    unfolding depth
    interval_in_spans =
        any_count (λ c. leb c.start past && leb (b - 1) c.end) spans
        ∙ ap (λ (k : List Span). ltb 0 (length k)) (filter_same _ (covers past) spans (λ c m. interval_covered c (every_member m bounded).1))

  -- no span covers a position before all breakpoints
  pub depth_before : (past : ℕ) → Every (λ b. past < b) all → depth spans past ≡ 0
  unfolding depth
  depth_before past h =
      ap length (filter_none (covers past) spans (λ c m.
      let start = every_member (every_member m bounded).0 h in
      uncovered c start))
    where
      uncovered : (c : Span) → past < c.start → covers past c ≡ false
      uncovered c k = unfold covers in rw (lt-leb c.start past k)

  -- at the first breakpoint spans start, and none ends before it
  pub depth_first : (past b : ℕ) (l : List ℕ) → Every (λ b. past < b) all → filter_by (ltb past) all ≡ b ∷ l
      → Every (λ (c : Span). c.start ≤ c.end) spans
      → (depth spans b ≡ begun spans b) × (ended spans b ≡ 0)
  unfolding ended
  depth_first past b l before next whole =
      let none_ends : ended spans b ≡ 0 =
      ap length (filter_none (λ c. eqb (suc c.end) b) spans (λ c m.
      let start = (every_member m bounded).0 in
      let from = next_least sorted past b l next start (every_member start before) in
      let order = every_member m whole in
      ne_eqb (suc c.end) b (λ same. omega arith))) in
      (omega (arith, depth_step past b l next whole, depth_before past before), none_ends)

-- ---- the clip

-- no more spans cover a position than there are
pub depth_few : (spans : List Span) (p : ℕ) → depth spans p ≤ length spans
unfolding depth
depth_few spans p = filter_few (covers p) spans

pub breakpoints_ascend : (sites : List Site) (clip : Option (List Span)) (contig : List ℕ) → Pairwise ◌<◌ (breakpoints sites clip contig)
unfolding breakpoints
breakpoints_ascend sites clip contig = ascending_numbers _

-- the bounds of spans are among all breakpoints
pub spans_bounded : (bs : List ℕ) (spans : List Span) → Bounded (ascending compare (bs ++ flat_map span_breakpoints spans)) spans
unfolding span_breakpoints
spans_bounded bs spans =
    every_of spans (λ c m. (bound c m _ (Memᴰ.head refl), bound c m _ (Memᴰ.tail (Memᴰ.head refl))))
  where
    bound : (c : Span) → c ∈ spans → (p : ℕ) → p ∈ span_breakpoints c → p ∈ ascending compare (bs ++ flat_map span_breakpoints spans)
    bound c m p n =
        ascending_member compare compare_eq _ (Memᴰ.append_right bs (flat_map_member span_breakpoints spans m n))

pub breakpoints_bounded : (sites : List Site) (clip : Option (List Span)) (contig : List ℕ)
    → Bounded (breakpoints sites clip contig) (spans_on contig clip)
unfolding breakpoints
breakpoints_bounded sites clip contig = spans_bounded (flat_map site_breakpoints (sites_on contig sites)) (spans_on contig clip)

-- each span of sound input has its start up to its end
pub spans_whole : (contig : List ℕ) (clip : Option (List Span)) → IfThere (Every SoundSpan) clip
    → Every (λ (c : Span). c.start ≤ c.end) (spans_on contig clip)
unfolding spans_on
spans_whole contig none h = nothing
spans_whole contig (some spans) h = every_filter _ _ (every_map (λ c k. k.ordered) h)

-- an interval from a breakpoint to the next lies in the clip exactly if there is no clip or a span covers its first position
pub in_clip_lem : {all : List ℕ} → Pairwise ◌<◌ all → (contig : List ℕ) (clip : Option (List Span)) → Bounded all (spans_on contig clip)
    → (past b : ℕ) (l : List ℕ) → filter_by (ltb past) all ≡ b ∷ l
    → in_clip contig clip (record { first = past; last = b - 1 }) ≡ not (is_there clip) || ltb 0 (depth (spans_on contig clip) past)
unfolding in_clip is_there
in_clip_lem sorted contig none bounded past b l next = refl
in_clip_lem sorted contig (some spans) bounded past b l next = interval_in_spans sorted bounded past b l next
