-- Adding a stretch to the counts of windows, window by window: what is passed over, one step, and where it may stop.
use Prim.Native.Nat.{◌*◌, ◌+◌, ◌-◌, ◌/◌, ◌<◌, ◌≤◌, suc, zero, ℕ}
use borrow.Author.Tests.{ltb-false}
use lib.Dec.{ltb}
use lib.ListN.{drop, drop_of_length-le, get_or, length, length-drop, length-set, set, take, take-append-drop}
use lib.Seq.{drop-cons, drop-set-lt, get_or-append-add, get_or_at, length-take-le, take_all, take-suc-set}
use mathlib.Core.Bool.{Bool, cond, false, true}
use mathlib.Core.List.{List, [], ◌++◌, ◌∷◌, append_assoc, append-nil}
use mathlib.Core.Path.{◌∙◌, ◌≡◌, ap, ap₂, refl, sym}
use native.Mathlib.Nat.{add-zero, div-mul-le_self, suc-mul}
use native.Mathlib.Omega.{arith}
use Rattle.definitions.specs.DepthWindows.{overlap}
use Rattle.definitions.specs.Limits.{max_window}
use Rattle.window_counts.specs.Counts.{AddReady, CountsSmall, OverlapsReady, SkipReady, added, position_limit, windows_before, with_stretch}
use Rattle.window_counts.specs.declared.Windows.{Windows}

module _ (start end size step : ℕ) where
  -- a window that ends before the stretch, or begins behind it
  none_before : (begin : ℕ) → begin + size ≤ start → overlap start end size begin ≡ 0
  unfolding overlap
  none_before begin h = omega arith

  none_behind : (begin : ℕ) → end < begin → overlap start end size begin ≡ 0
  unfolding overlap
  none_behind begin h = omega arith

  pub overlap_small : (begin : ℕ) → overlap start end size begin ≤ size
  unfolding overlap
  overlap_small begin = omega arith

  -- nothing is added from a window behind the stretch on
  pub behind : (begin : ℕ) → end < begin → (counts : List ℕ) → with_stretch start end size step begin counts ≡ counts
  unfolding with_stretch
  behind begin h [] = refl
  behind begin h (c ∷ counts) =
      let here : c + overlap start end size begin ≡ c = rw (none_behind begin h) (add-zero c) in
      ap₂ ◌∷◌ here (behind (begin + step) (omega arith) counts)

  pub counts_length : (begin : ℕ) (counts : List ℕ) → length (with_stretch start end size step begin counts) ≡ length counts
  unfolding with_stretch
  counts_length begin [] = refl
  counts_length begin (c ∷ counts) = ap suc (counts_length (begin + step) counts)

  -- nothing is added to the windows before the stretch
  pub passed_over : (n begin : ℕ) → ((k : ℕ) → suc k ≡ n → begin + k * step + size ≤ start) → (counts : List ℕ)
      → with_stretch start end size step begin counts ≡ take n counts ++ with_stretch start end size step (begin + n * step) (drop n counts)
  unfolding with_stretch
  passed_over zero begin h counts = ap (λ (b : ℕ). with_stretch start end size step b counts) (omega arith)
  passed_over (suc n) begin h [] = refl
  passed_over (suc n) begin h (c ∷ counts) =
      let last : begin + n * step + size ≤ start = h n refl in
      let here : c + overlap start end size begin ≡ c = rw (none_before begin (omega arith)) (add-zero c) in
      let next : begin + step + n * step ≡ begin + suc n * step = omega arith in
      ap₂ ◌∷◌ here (passed_over n (begin + step) (λ k e. later k e last) counts
      ∙ ap (λ (b : ℕ). take n counts ++ with_stretch start end size step b (drop n counts)) next)
    where
      later : (k : ℕ) → suc k ≡ n → begin + n * step + size ≤ start → begin + step + k * step + size ≤ start
      later k e l = let l2 : begin + suc k * step + size ≤ start = rw e l in omega arith

  -- ---- window by window

  -- up to window k, which begins here, the stretch is added to what the counts were
  pub record Adding (counts₀ : List ℕ) (begin₀ : ℕ) (counts : List ℕ) (begin k : ℕ) : Type 0 where
    pub same : take k counts ++ with_stretch start end size step begin (drop k counts) ≡ with_stretch start end size step begin₀ counts₀
    pub len : length counts ≡ length counts₀

  module _ {counts₀ counts : List ℕ} {begin₀ begin k : ℕ} (h : Adding counts₀ begin₀ counts begin k) where
    step_on : k < length counts → with_stretch start end size step begin (drop k counts)
        ≡ (get_or counts k 0 + overlap start end size begin) ∷ with_stretch start end size step (begin + step) (drop (suc k) counts)
    unfolding with_stretch
    step_on l = ap (with_stretch start end size step begin) (drop-cons counts k 0 l)

    -- the count of window k
    pub next_count : k < length counts → get_or counts k 0 + overlap start end size begin ≡ get_or (with_stretch start end size step begin₀ counts₀) k 0
    next_count l =
        let v = get_or counts k 0 + overlap start end size begin in
        let at = get_or_at (take k counts) v (with_stretch start end size step (begin + step) (drop (suc k) counts)) 0 k (length-take-le k counts (omega arith)) in
        sym at ∙ ap (λ (xs : List ℕ). get_or (take k counts ++ xs) k 0) (sym (step_on l)) ∙ ap (λ (xs : List ℕ). get_or xs k 0) h.same

    -- is stored
    pub one_window : (v : ℕ) → k < length counts → v ≡ get_or counts k 0 + overlap start end size begin
        → Adding counts₀ begin₀ (set counts k v) (begin + step) (suc k)
    one_window v l e =
        record {
          same =
              ap₂ (λ (xs ys : List ℕ). xs ++ with_stretch start end size step (begin + step) ys)
              (take-suc-set counts k v l) (drop-set-lt (suc k) counts k v (omega arith))
              ∙ append_assoc (take k counts) (v ∷ []) _
              ∙ ap (λ (n : ℕ). take k counts ++ n ∷ with_stretch start end size step (begin + step) (drop (suc k) counts)) e
              ∙ ap (λ (xs : List ℕ). take k counts ++ xs) (sym (step_on l)) ∙ h.same;
          len = length-set counts k v ∙ h.len;
        }

    -- past the last window
    pub past_all_lem : length counts ≤ k → counts ≡ with_stretch start end size step begin₀ counts₀
    unfolding with_stretch
    past_all_lem l =
        sym (append-nil counts) ∙ ap₂ (λ (xs ys : List ℕ). xs ++ with_stretch start end size step begin ys) (sym (take_all k counts l)) (sym (drop_of_length-le counts l))
        ∙ h.same

    -- or behind the stretch
    pub past_stretch : end < begin → counts ≡ with_stretch start end size step begin₀ counts₀
    past_stretch l =
        sym (take-append-drop k counts) ∙ ap (λ (xs : List ℕ). take k counts ++ xs) (sym (behind begin l (drop k counts))) ∙ h.same

    -- the next count fits 32 bits
    pub count_fits : {s e b : ℕ} → start ≡ s → end ≡ e → begin₀ ≡ b → k < length counts
        → CountsSmall (with_stretch s e size step b counts₀)
        → {more : ℕ} → more ≡ overlap start end size begin → get_or counts k 0 + more < 4294967296
    count_fits {s} {e} {b} p q r l f m =
        let all = next_count l in
        let same : with_stretch start end size step begin₀ counts₀ ≡ with_stretch s e size step b counts₀ = rw (p, q, r) in
        omega (arith, m, all, ap (λ (xs : List ℕ). get_or xs k 0) same, f k)

-- ---- the windows before the stretch

module _ (first size step pos : ℕ) where
  -- each of them ends before it
  pub before_ends : (k : ℕ) → suc k ≡ windows_before first size step pos → first + k * step + size ≤ pos
  unfolding windows_before
  before_ends k e = go (ltb pos (first + size)) refl e
    where
      go : (b : Bool) → ltb pos (first + size) ≡ b → suc k ≡ cond b 0 (suc ((pos - (first + size)) / step)) → first + k * step + size ≤ pos
      go true t f = absurd (omega arith)
      go false t f =
          let same : k ≡ (pos - (first + size)) / step = omega arith in
          let fewer : k * step ≤ pos - (first + size) = rw same (div-mul-le_self (pos - (first + size)) step) in
          omega (arith, ltb-false pos (first + size) t)

  -- and the next begins not far behind it
  pub next_near : windows_before first size step pos * step ≤ pos + step
  unfolding windows_before
  next_near = go (ltb pos (first + size))
    where
      go : (b : Bool) → cond b 0 (suc ((pos - (first + size)) / step)) * step ≤ pos + step
      go true = omega arith
      go false =
          let fewer = div-mul-le_self (pos - (first + size)) step in
          let one : suc ((pos - (first + size)) / step) * step ≡ (pos - (first + size)) / step * step + step = suc-mul ((pos - (first + size)) / step) step in
          omega arith

  -- so they are passed over, where so many are skipped and the next begins here
  module _ (end : ℕ) (counts : List ℕ) (n begin : ℕ) (skip : n ≡ windows_before first size step pos) (next : begin ≡ first + n * step) where
    pub skipped : with_stretch pos end size step first counts ≡ take n counts ++ with_stretch pos end size step begin (drop n counts)
    skipped =
        passed_over pos end size step n first (λ k e. before_ends k (e ∙ skip)) counts
        ∙ ap (λ (b : ℕ). take n counts ++ with_stretch pos end size step b (drop n counts)) (sym next)

    -- the counts from the next one on
    rest : n ≤ length counts → take (length counts - n) (drop n counts) ≡ drop n counts
    rest l = take_all (length counts - n) (drop n counts) (omega (arith, length-drop n counts))

    pub later_fits : n ≤ length counts → CountsSmall (with_stretch pos end size step first counts)
        → CountsSmall (with_stretch pos end size step begin (take (length counts - n) (drop n counts)))
    later_fits l f k =
        let len = length-take-le n counts l in
        let there = get_or-append-add (take n counts) (with_stretch pos end size step begin (drop n counts)) k 0 in
        let same : get_or (with_stretch pos end size step begin (drop n counts)) k 0 ≡ get_or (with_stretch pos end size step first counts) (n + k) 0 =
        sym there ∙ ap₂ (λ (xs : List ℕ) (i : ℕ). get_or xs (i + k) 0) (sym skipped) len in
        rw (rest l, same) (f (n + k))

    pub skipped_added : n ≤ length counts → {part : List ℕ}
        → part ≡ with_stretch pos end size step begin (take (length counts - n) (drop n counts))
        → take n counts ++ (part ++ drop (length counts - n) (drop n counts)) ≡ with_stretch pos end size step first counts
    skipped_added l {part} e =
        let few : length (drop n counts) ≤ length counts - n = omega (arith, length-drop n counts) in
        let none : drop (length counts - n) (drop n counts) ≡ [] = drop_of_length-le (drop n counts) few in
        ap₂ (λ (xs ys : List ℕ). take n counts ++ (xs ++ ys)) (e ∙ ap (with_stretch pos end size step begin) (rest l)) none
        ∙ ap (λ (xs : List ℕ). take n counts ++ xs) (append-nil _) ∙ sym skipped

    pub all_skipped : length counts ≤ n → counts ≡ with_stretch pos end size step first counts
    unfolding with_stretch
    all_skipped l =
        sym (append-nil counts)
        ∙ ap₂ (λ (xs ys : List ℕ). xs ++ with_stretch pos end size step begin ys) (sym (take_all n counts l)) (sym (drop_of_length-le counts l))
        ∙ sym skipped

    -- nothing runs over
    pub product_fits : pos < position_limit → step ≤ max_window → n * step < 18446744073709551616
    product_fits p s = omega (arith, ap (λ (m : ℕ). m * step) skip, next_near)

    pub begin_fits : pos < position_limit → step ≤ max_window → first < position_limit → first + n * step < 18446744073709551616
    begin_fits p s f = omega (arith, ap (λ (m : ℕ). m * step) skip, next_near)

-- the windows of a call and the start of the stretch: so many windows are skipped, and the next begins here
pub record Skipping (w : Windows) (start n begin : ℕ) : Type 0 where
  pub skip : n ≡ windows_before w.first.0 w.size w.step start
  pub next : begin ≡ w.first.0 + n * w.step

pub skipping : {w : Windows} {start n begin first start' : ℕ} → start' ≡ start
    → n ≡ windows_before w.first.0 w.size w.step start' → first ≡ w.first.0 → begin ≡ first + n * w.step
    → Skipping w start n begin
skipping {w} {start} {n} s k f b =
    record { skip = k ∙ ap (windows_before w.first.0 w.size w.step) s; next = b ∙ ap (λ (m : ℕ). m + n * w.step) f }

pub skip_ready : {w : Windows} {start end start' : ℕ} {counts : List ℕ} → AddReady w start end counts → start' ≡ start → SkipReady w start'
skip_ready ready e = record { windows = ready.windows; pos_small = rw e ready.start_small }

module _ {w : Windows} {start end : ℕ} {counts : List ℕ} {n begin : ℕ} (ready : AddReady w start end counts) (s : Skipping w start n begin) where
  pub later_ready : n < length counts → (later : Windows) → later.first.0 ≡ begin → later.size ≡ w.size → later.step ≡ w.step
      → OverlapsReady later start end (take (length counts - n) (drop n counts))
  later_ready l later f z t =
      let few : n ≤ length counts = omega arith in
      record {
        size_small = rw z ready.windows.size_small;
        step_small = rw t ready.windows.step_small;
        end_small = ready.end_small;
        fits = rw (f, z, t) (later_fits w.first.0 w.size w.step start end counts n begin s.skip s.next few ready.fits);
      }

  pub later_added : n < length counts → (later : Windows) → later.first.0 ≡ begin → later.size ≡ w.size → later.step ≡ w.step
      → {part : List ℕ} → part ≡ added later start end (take (length counts - n) (drop n counts))
      → take n counts ++ (part ++ drop (length counts - n) (drop n counts)) ≡ added w start end counts
  later_added l later f z t {part} e =
      skipped_added w.first.0 w.size w.step start end counts n begin s.skip s.next (omega arith) (e ∙ rw (f, z, t))

  pub none_added : length counts ≤ n → counts ≡ added w start end counts
  none_added l = all_skipped w.first.0 w.size w.step start end counts n begin s.skip s.next l

  pub skips_fit : n * w.step < 18446744073709551616
  skips_fit = product_fits w.first.0 w.size w.step start end counts n begin s.skip s.next
      ready.start_small ready.windows.step_small

  pub starts_fit : w.first.0 + n * w.step < 18446744073709551616
  starts_fit = begin_fits w.first.0 w.size w.step start end counts n begin s.skip s.next
      ready.start_small ready.windows.step_small ready.windows.first_small
