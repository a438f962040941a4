-- By whether there is room.
use Prim.Native.Nat.{◌≤◌}
use borrow.Author.Rules.{rules}
use lib.ListN.{drop, length}
use lib.Seq.{sets}
use mathlib.Core.List.{List, ◌++◌}
use mathlib.Core.Path.{◌∙◌, ◌≡◌, refl, sym}
use Rattle.allele_subsetting_pl.proofs.UnusedAltSubsets.{answered_refused, answered_written, room_of, with_room_lem, without_room}
use Rattle.allele_subsetting_pl.specs.UnusedAlts.{outputs, whole_record}
use Rattle.kv_write.proofs.Laying.{sets_front}
use Rattle.allele_subsetting_pl.proofs.copy_record.Goals as goal

-- a list copied to the front of an output
copied : {A : Type 0} (out values : List A) {part : List A} → length values ≤ length out → part ≡ values → part ++ drop (length values) out ≡ sets out 0 values
copied out values room e = rw e (sym (sets_front out values room))

pub returns-then-not-has_room : goal.returns-then-not-has_room
returns-then-not-has_room c = let whole = whole_record c.args.alts.now c.args.gl.now c.args.ad.now in
    let out = outputs c.args.alts_out.now c.args.gl_out.now c.args.ad_out.now in
    answered_refused (without_room whole out (sym c.has_room.ensures ∙ c.if-not-has_room.true) refl)

pub returns : goal.returns
returns c = let whole = whole_record c.args.alts.now c.args.gl.now c.args.ad.now in
    let out = outputs c.args.alts_out.now c.args.gl_out.now c.args.ad_out.now in
    let fits = sym c.has_room.ensures ∙ c.if-not-has_room.false in
    let room = room_of whole out fits in
    answered_written (with_room_lem whole out fits refl) refl refl refl room
    (record {
      alts = copied out.alts whole.alts room.alts c.copy_over.ensures;
      likelihoods = copied out.likelihoods whole.likelihoods room.likelihoods c.copy_over-2.ensures;
      ad = copied out.ad whole.ad room.ad c.copy_over-3.ensures;
    })
