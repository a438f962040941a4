-- The loop's invariant: storing the first numbers from here on gives what storing all of them was to give.
use Prim.Native.Nat.{◌+◌, ◌-◌, ◌<◌, ◌≤◌, ℕ}
use lib.ListN.{drop, length, set}
use lib.Seq.{sets}
use mathlib.Core.List.{List, [], ◌∷◌}
use mathlib.Core.Option.{some}
use mathlib.Core.Path.{◌∙◌, ◌≡◌, ap, refl, sym}
use native.Mathlib.Numerals.{add-one}
use native.Mathlib.Omega.{arith}
use Rattle.definitions.specs.Bytes.{comma, fields_of}
use Rattle.definitions.specs.Numbers.{number, number_list}
use Rattle.kv_text.proofs.Fields.{field_first, field_forward, field_last, first_between, first_of}
use Rattle.kv_text.proofs.Numbers.{all_fault, all_later_fault, all_number, all_nothing, first_fault, first_number}
use Rattle.kv_text.specs.Fields.{between, digits_read, field_length, first_numbers, numbers_read}
use Rattle.std.specs.Prelude as std
use Rattle.kv_text.proofs.read_numbers.Invariants.{Turn, from}
use Rattle.kv_text.proofs.read_numbers.Goals as goal

start : (s out : List ℕ) → Turn s out out 0 0
start s out = record {
  within = omega arith;
  few = omega arith;
  long = refl;
  same = refl;
  place = omega arith;
  reads = λ h. h;
  faulty = λ h. h;
}

module _ (s out₀ out : List ℕ) (at count : ℕ) (t : Turn s out₀ out at count) where
  fault : digits_read std.None s at → numbers_read std.None s × (out ≡ sets out₀ 0 (first_numbers (fields_of comma s)))
  unfolding digits_read numbers_read number_list comma
  fault h =
      let (fs, e) = first_of 44 (drop at s) in
      let none_first : first_numbers (from s at) ≡ [] = rw e (first_fault _ fs h) in
      (t.faulty (rw e (all_fault _ fs h)), ap (sets out count) (sym none_first) ∙ t.same)

  module _ (v end : ℕ) (r : digits_read (std.Some (v, end)) s at) where
    ends : end ≡ at + field_length 44 (drop at s)
    unfolding digits_read comma
    ends = r.1

    spelled : number (between s at end) ≡ some v
    unfolding digits_read comma
    spelled = rw (first_between 44 s at end ends) at r.0

    less : end < length s → length s - (end + 1) < length s - at
    less inside = omega (arith, ends)

    next : (out' : List ℕ) → end < length s → out' ≡ set out count v → length out' ≡ length out → Turn s out₀ out' (end + 1) (count + 1)
    next out' inside e l =
        let rest = from s (end + 1) in
        let c = field_first 44 s at end ends inside in
        let first : first_numbers (from s at) ≡ v ∷ first_numbers rest = rw c (first_number _ rest spelled) in
        record {
          within = omega arith;
          few = omega (arith, t.few, field_forward 44 s at end ends);
          long = l ∙ t.long;
          same = rw (e, add-one count) (ap (sets out count) (sym first) ∙ t.same);
          place = omega (arith, t.place, ap length first);
          reads = λ r. t.reads (rw c (all_number _ rest spelled r));
          faulty = λ r. t.faulty (rw c (all_later_fault _ rest spelled r));
        }

    last : (out' : List ℕ) → length s ≤ end → out' ≡ set out count v
        → numbers_read (std.Some (count + 1)) s × (out' ≡ sets out₀ 0 (first_numbers (fields_of comma s)))
    unfolding numbers_read number_list comma first_numbers
    last out' past e =
        let c = field_last 44 s at end ends t.within past in
        let first : first_numbers (from s at) ≡ v ∷ [] = rw c (first_number _ [] spelled) in
        ((t.reads (rw c (all_number _ [] spelled all_nothing)), omega (arith, t.place, ap length first)), e ∙ ap (sets out count) (sym first) ∙ t.same)

pub loop-n-init : goal.loop-n-init
loop-n-init c = start _ _

pub returns-in_err-n : goal.returns-in_err-n
returns-in_err-n c = rw c.from_residual.ensures (fault _ _ _ _ _ c.loop-n.invariant c.in_err-n.ensures)

pub overflow_add-count : goal.overflow_add-count
overflow_add-count c = omega (arith, c.loop-n.invariant.few, c.loop-n.invariant.within)

pub returns-then-s-end : goal.returns-then-s-end
returns-then-s-end c = last _ _ _ _ _ c.loop-n.invariant _ _ c.in_ok-n.ensures _ c.if-s-end.true c.store.ensures

pub loop-n-smaller : goal.loop-n-smaller
loop-n-smaller c = less _ _ _ _ _ c.loop-n.invariant _ _ c.in_ok-n.ensures (omega arith)

pub loop-n-preserved : goal.loop-n-preserved
loop-n-preserved c = next _ _ _ _ _ c.loop-n.invariant _ _ c.in_ok-n.ensures _ (omega arith) c.store.ensures c.store.auto.out
