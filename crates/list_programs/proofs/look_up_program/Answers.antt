-- The files' lengths, then the call, and what it prints.
use mathlib.Core.Path.{◌∙◌, refl, sym}
use native.Mathlib.Omega.{arith}
use Rattle.list_programs.proofs.FoundLines.{both_taken, first_long, found_in, refused_in, second_long, taken_size}
use Rattle.list_programs.proofs.look_up_program.Goals as goal

pub returns-then-is_too_long : goal.returns-then-is_too_long
returns-then-is_too_long c = let e = sym c.is_too_long.ensures ∙ c.if-is_too_long.true in
    rw (first_long _ _ _ _ e) c.put_row.ensures

pub returns-then-is_too_long-2 : goal.returns-then-is_too_long-2
returns-then-is_too_long-2 c = let whole = sym c.is_too_long.ensures ∙ c.if-is_too_long.false in
    let e = sym c.is_too_long-2.ensures ∙ c.if-is_too_long-2.true in
    rw (second_long _ _ _ _ whole e) c.put_row-then-is_too_long-2.ensures

pub slice_bounds-found-end : goal.slice_bounds-found-end
slice_bounds-found-end c = let f = found_in _ _ _ _ refl c.in-Ok.ensures in omega (arith, f.few)

pub slice_bounds-put_found-end : goal.slice_bounds-put_found-end
slice_bounds-put_found-end c = taken_size (found_in _ _ _ _ refl c.in-Ok.ensures)

pub put_found-requires : goal.put_found-requires
put_found-requires c = let f = found_in _ _ _ _ refl c.in-Ok.ensures in f.short

pub returns-in-Err : goal.returns-in-Err
returns-in-Err c = let whole = sym c.is_too_long.ensures ∙ c.if-is_too_long.false in
    let e = sym c.is_too_long-2.ensures ∙ c.if-is_too_long-2.false in
    let told = refused_in _ _ _ _ refl c.in-Err.ensures in
    rw (both_taken _ _ _ _ whole e, ← c.text.ensures, ← c.text-2.ensures, told) c.put_row-in-Err.ensures

pub returns-in-Ok : goal.returns-in-Ok
returns-in-Ok c = let whole = sym c.is_too_long.ensures ∙ c.if-is_too_long.false in
    let e = sym c.is_too_long-2.ensures ∙ c.if-is_too_long-2.false in
    let f = found_in _ _ _ _ refl c.in-Ok.ensures in
    rw (both_taken _ _ _ _ whole e, ← c.text.ensures, ← c.text-2.ensures, f.value, ← f.lines) c.put_found.ensures
