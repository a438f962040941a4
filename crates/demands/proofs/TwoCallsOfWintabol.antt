-- The theorem, `TwoCallsOfWintabol` of specs/: a call that answered 0 wrote its list, as a call of the entry does.
use Prim.Native.Nat.{ℕ}
use lib.ListN.{length}
use mathlib.Core.Bool.{true}
use mathlib.Core.List.{List}
use mathlib.Core.Path.{◌∙◌, ◌≡◌, ap, refl, sym}
use Rattle.std.specs.Prelude.{Ok}
use Rattle.combine_gvcfs.specs.Combined.{Combined}
use Rattle.definitions.specs.Answers.{Answer, answer_of, written_of}
use Rattle.definitions.specs.Checked.{Checked, accepted, is_accepted, refused}
use Rattle.definitions.specs.CombinedList.{Texts}
use Rattle.laws.proofs.Tests.{clash}
use Rattle.wintabol.specs.Exported.{ExportedList, answer}
use Rattle.demands.specs.TwoCallsOfWintabol.{TwoCallsOfWintabol}
use Rattle.demands.proofs.TwoCallsOfCombine.{two_calls}

-- so many values are written where the first number is 0
zero_written : (values : Checked (List ℕ)) {n : ℕ} → true ≡ is_accepted values → answer 0 n ≡ answer_of values → accepted n ≡ written_of values
unfolding is_accepted answer_of written_of
zero_written (refused row) t e = clash refl t
zero_written (accepted list) t e = ap {B = Checked ℕ} accepted (ap (λ (a : Answer). a.written) e)

pub as_written : {t : Texts} {scratch scratch' out out' : List ℕ} {n : ℕ} → ExportedList t scratch scratch' out out' 0 n
    → Combined t scratch scratch' out out' (Ok n)
as_written call =
    record {
      answer = zero_written _ call.exported.accepts call.exported.numbers;
      output = call.exported.output;
      cleared = call.cleared;
    }

pub two_exported_calls : TwoCallsOfWintabol
two_exported_calls t1 t2 c1 c2 scratch1 scratch1' out1 out1' scratch2 scratch2' out2 out2' n1 n2 same-clip read1 read2 ins call1 call2 =
    two_calls t1 t2 c1 c2 scratch1 scratch1' out1 out1' scratch2 scratch2' out2 out2' n1 n2 same-clip read1 read2 ins
    (as_written call1) (as_written call2)
