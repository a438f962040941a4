-- What `?` passes on, and what `ok_or` refuses.
use mathlib.Core.Path.{◌≡◌, ap}
use Rattle.std.specs.Prelude as std
use Rattle.std.specs.Result.{IsErrAnd}
use Rattle.std.specs.Option.{ok_or}

-- a result that has an error equal to this one
pub err_is : {A E : Type 0} (r : std.Result A E) (e : E) → IsErrAnd r (λ x. x ≡ e) → r ≡ std.Err e
err_is (std.Ok a) e h = absurd h
err_is (std.Err x) e h = ap (λ y. std.Err y) h

-- the same where the error is what no value was refused with
pub none_is : {A B E : Type 0} (r : std.Result A E) (o : std.Option B) (f e : E)
    → IsErrAnd r (λ x. x ≡ f) → std.Err f ≡ ok_or o e → o ≡ std.None → r ≡ std.Err e
none_is (std.Ok a) o f e h value none = absurd h
none_is (std.Err x) o f e h value none = let v = rw none at value in cc
