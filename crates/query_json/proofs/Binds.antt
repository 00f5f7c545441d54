-- What a chain of steps that gives a value says of each step.
use Rattle.std.proofs.Common.{◌≡◌, Result, Ok, Err, Option, Some, None, Bool, true, cond, refl}
use Rattle.std.specs.Prelude.{option_and_then}
use Rattle.std.proofs.lemmas.Option.{cond_some}
use Rattle.query_json.specs.Answer.{◌>>=◌}

-- the first step gives a value, and the rest gives the whole from it
pub bind_ok : {E A B : Type 0} (first : Result A E) (rest : A → Result B E) (y : B) → (first >>= rest) ≡ Ok y → (x : A) × (first ≡ Ok x) × (rest x ≡ Ok y)
bind_ok (Ok x) rest y e = (x, refl, e)
bind_ok (Err f) rest y e = absurd cc

pub ok_same : {X E : Type 0} (x y : X) → ◌≡◌ {A = Result X E} (Ok x) (Ok y) → x ≡ y
ok_same x y e = cc

-- a value that a test lets through
pub kept : {X : Type 0} (test : X → Bool) (o : Option X) (x : X) → option_and_then (λ y. cond (test y) (Some y) None) o ≡ Some x → test x ≡ true
kept test None x e = absurd cc
kept test (Some y) x e = let k : (test y ≡ true) × (y ≡ x) = cond_some (test y) y x e in rw (← k.1) k.0
