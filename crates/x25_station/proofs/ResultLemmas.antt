-- Ok and Err: they differ, and Err keeps its error.
use Rattle.x25_station.proofs.Names.{◌≡◌, Result, Ok, Err}

pub ok_err : {T E : Type 0} (x : T) (e : E) → Ok x ≡ Err e → ⊥
ok_err x e is = cc

pub err_is : (T E : Type 0) (a b : E) → (let x : Result T E = Err a in x ≡ Err b) → a ≡ b
err_is T E a b is = cc
