-- REF alone, or REF and a list of ALTs.
use Prim.Native.Nat.{◌+◌, ◌<◌, ℕ}
use lib.ListN.{drop, length, take}
use mathlib.Core.Bool.{Bool}
use mathlib.Core.List.{List}
use mathlib.Core.Path.{◌∙◌, ◌≡◌}
use Rattle.std.specs.Option.{is_some}
use Rattle.std.specs.Prelude as std
use Rattle.alleles.specs.Alleles.{AllelesFound}
use Rattle.alleles.specs.declared.CheckedAlleles.{CheckedAlleles}
use Rattle.definitions.specs.Bytes.{comma, fields_of}
use Rattle.definitions.specs.Checked.{is_accepted}
use Rattle.definitions.specs.ReverseTrim.{alleles_from}
use Rattle.kv_text.specs.Fields.{field_length}
use Rattle.reverse_trim.proofs.InOrder.{alone_accepted, rest_from, several_right, several_wrong}
use Rattle.reverse_trim.proofs.are_alleles.Goals as goal

pub returns-then-list-end : goal.returns-then-list-end
returns-then-list-end c = c.is_letters.ensures ∙ alone_accepted _ _ (c.field_end-end.ensures) c.if-list-end.true

found : (s : List ℕ) {end : ℕ} (first : end ≡ 0 + field_length 44 (drop 0 s)) (h : end < length s) (r : std.Option CheckedAlleles) {b : Bool}
    → AllelesFound 255 16 (take end s) (rest_from s (end + 1)) r → b ≡ is_some r → b ≡ is_accepted (alleles_from (fields_of comma s))
unfolding AllelesFound
found s first h (std.Some x) f e = e ∙ several_right s _ first h f.right
found s first h std.None f e = e ∙ several_wrong s _ first h f

pub returns : goal.returns
returns c = found c.args.list.now c.field_end-end.ensures c.if-list-end.false c.check_alleles.result c.check_alleles.ensures c.is_some.ensures
