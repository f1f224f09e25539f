-- What it is for a contract to decide a call: its result, and what is left behind each `&mut`.
use Rattle.std.specs.Prelude.{◌≡◌}
use seplogic.Ra.Ura.{Ura}
use base.Logic.{ent}
use contract.Monad.{conj, fact}
use contract.Lifetimes.{Lfts}
use denote.Triple.Entry.{Args, Res}
use denote.Triple.Clauses.{Ended, Lasts, AtExit, at_exit, Clauses}

-- what a caller learns of a call: of its arguments, its result, and its parameters at exit
abbrev pub Learning : Ended → Type 1
Learning T = (κs : Lfts T.signature.lifetimes) → Args T.signature κs → Res T.signature κs → AtExit T κs → Type 0

-- of two calls with the same arguments: the results are equal, and so is what they leave
abbrev pub Decides : (T : Ended) → Learning T → Type 0
Decides T learnt =
    (κs : Lfts T.signature.lifetimes) (a : Args T.signature κs) (x y : Res T.signature κs) (v w : Lasts T κs a)
    → learnt κs a x (at_exit T κs a v)
    → learnt κs a y (at_exit T κs a w)
    → (x ≡ y) × (v ≡ w)

-- the same at a model of the logic, for a contract of which the toolchain has no plain reading: where the clauses hold of both calls
abbrev pub DecidesAt : {M : Type 1} (𝓤 : Ura M) (T : Ended) → Clauses 𝓤 T → Type 1
DecidesAt 𝓤 T c =
    (κs : Lfts T.signature.lifetimes) (a : Args T.signature κs) (g h : (c κs a).ghost) (x y : Res T.signature κs) (v w : Lasts T κs a)
    → ent 𝓤 (conj 𝓤 ((c κs a).ensures g x (at_exit T κs a v)) ((c κs a).ensures h y (at_exit T κs a w))) (fact 𝓤 ((x ≡ y) × (v ≡ w)))
