-- From every state but Refused there is a way on with no 3.
use Rattle.std.specs.Prelude.{None}
use Prim.Native.Nat.{ℕ, zero, suc, ◌+◌, ◌-◌, ◌≤◌}
use mathlib.Core.Path.{◌≡◌, refl, ap, ◌∙◌}
use mathlib.Core.Bool.{Bool, true, false}
use mathlib.Core.List.{List}
use mathlib.Core.Logic.{◌⊎◌, inl, inr}
use native.Mathlib.Omega.{arith}
use lib.Dec.{ltb}
use borrow.Author.Tests.{le-leb, lt-leb, eq-eqb}
use Rattle.text.specs.Classes.{class_of}
use Rattle.text.specs.Digits.{hex_of}
use Rattle.text.proofs.Tests.{within_is}
use Rattle.literal.specs.Escapes.{simple_of}
use Rattle.token.specs.Lists.{Tokens}
use Rattle.states.specs.declared.Lit.{Lit}
use Rattle.states.specs.declared.Lit.TheVariants.{Text, One}
use Rattle.states.specs.declared.Tail.{Tail}
use Rattle.states.specs.declared.Tail.TheVariants.{T1, T2, T3, TE0, TED, TF0, TF4}
use Rattle.states.specs.declared.State.{State}
use Rattle.states.specs.declared.State.TheVariants.{Start, Word, Push, Num, Hash, Tag, Dot, Caret, Minus, Zeros, Negative, Str, Esc, X0, X1, U, Un, Chr, More, Quote, Slash, Slash2, Line, Doc, DocCr, Cr, Com, Star, Bar, Refused}
use Rattle.states.specs.declared.Conf.{Conf}
use Rattle.states.specs.Machine.{push_row, feed, fresh, closers, completion}
use Rattle.states.specs.Keep.{code_of, refused_code, state_fits}
use Rattle.states.specs.Free.{Free-3}
use Rattle.states.proofs.Bytes.{completion_bytes}
use Rattle.states.proofs.Fits.{never, code_refused, fine_feed}
use Rattle.states.proofs.Main.{whole, left_whole, continued}

-- ---- one test a state

abbrev at : State → ℕ → ℕ → Conf
at q a n = record { state = q; start = a; size = n }

abbrev pub Done : State → ℕ → ℕ → Type 0
Done q a n = (whole (at q a n) (completion q n)).fault ≡ None

com_done : (d a n : ℕ) → (whole (at (Com d) a n) (closers d)).fault ≡ None
unfolding feed
com_done zero a n = refl
com_done (suc zero) a n = refl
com_done (suc (suc d)) a n =
    let z : suc (suc d) - 1 ≡ suc d = omega arith in
    rw (lt-leb (suc (suc d)) 1 (omega arith), z) (com_done (suc d) a (n + 2))

un_last : (l : Lit) (b j a n : ℕ) (p : Bool) → ltb (suc (suc j)) 6 ≡ p → Done (Un l b (suc (suc j))) a n
unfolding feed hex_of
un_last (Text k) b j a n true e = rw (e, le-leb 2 (suc (suc j)) (omega arith))
un_last (Text k) b j a n false e = rw (e, le-leb 2 (suc (suc j)) (omega arith))
un_last One b j a n true e = rw (e, le-leb 2 (suc (suc j)) (omega arith))
un_last One b j a n false e = rw (e, le-leb 2 (suc (suc j)) (omega arith))

un_done : (l : Lit) (b j a n : ℕ) → Done (Un l b j) a n
unfolding feed hex_of
un_done (Text k) b zero a n = refl
un_done One b zero a n = refl
un_done (Text k) b (suc zero) a n = refl
un_done One b (suc zero) a n = refl
un_done l b (suc (suc j)) a n = un_last l b j a n (ltb (suc (suc j)) 6) refl

lit_done : (l : Lit) (b a n : ℕ) → Done (Esc l b) a n × Done (X0 l b) a n × Done (X1 l b) a n × Done (U l b) a n
unfolding feed hex_of simple_of
lit_done (Text k) b a n = (refl, refl, refl, refl)
lit_done One b a n = (refl, refl, refl, refl)

more_done : (t : Tail) (a n : ℕ) → Done (More t) a n
unfolding feed
more_done T1 a n = refl
more_done T2 a n = refl
more_done T3 a n = refl
more_done TE0 a n = refl
more_done TED a n = refl
more_done TF0 a n = refl
more_done TF4 a n = refl

push_done : (a n : ℕ) → n ≤ 12 → Done Push a n
unfolding feed push_row
push_done a zero h = refl
push_done a (suc zero) h = refl
push_done a (suc (suc zero)) h = refl
push_done a (suc (suc (suc zero))) h = refl
push_done a (suc (suc (suc (suc zero)))) h = refl
push_done a (suc (suc (suc (suc (suc zero))))) h = refl
push_done a (suc (suc (suc (suc (suc (suc zero)))))) h = refl
push_done a (suc (suc (suc (suc (suc (suc (suc zero))))))) h = refl
push_done a (suc (suc (suc (suc (suc (suc (suc (suc zero)))))))) h = refl
push_done a (suc (suc (suc (suc (suc (suc (suc (suc (suc zero))))))))) h = refl
push_done a (suc (suc (suc (suc (suc (suc (suc (suc (suc (suc zero)))))))))) h = refl
push_done a (suc (suc (suc (suc (suc (suc (suc (suc (suc (suc (suc zero))))))))))) h = refl
push_done a (suc (suc (suc (suc (suc (suc (suc (suc (suc (suc (suc (suc zero)))))))))))) h = refl
push_done a (suc (suc (suc (suc (suc (suc (suc (suc (suc (suc (suc (suc (suc n))))))))))))) h = absurd (omega arith)

pub done : (q : State) (a n : ℕ) → state_fits q n ≡ true → Done q a n
unfolding feed class_of
done Start a n h = refl
done Word a n h = refl
done Push a n h = push_done a n (within_is 1 12 n h).high
done Num a n h = refl
done Hash a n h = refl
done Tag a n h = refl
done Dot a n h = refl
done Caret a n h = refl
done Minus a n h = refl
done Zeros a n h = refl
done Negative a n h = refl
done (Str k) a n h = refl
done (Esc l b) a n h = (lit_done l b a n).0
done (X0 l b) a n h = (lit_done l b a n).1
done (X1 l b) a n h = (lit_done l b a n).2
done (U l b) a n h = (lit_done l b a n).3
done (Un l b j) a n h = un_done l b j a n
done Chr a n h = refl
done (More t) a n h = more_done t a n
done Quote a n h = refl
done Slash a n h = refl
done Slash2 a n h = refl
done Line a n h = refl
done (Doc k) a n h = refl
done (DocCr k) a n h = refl
done Cr a n h = refl
done (Com d) a n h = com_done d a n
done (Star d) a n h = com_done d a (suc (suc n))
done (Bar d) a n h = com_done d a (suc (suc n))
done Refused a n h = never h

-- where no fault shows, some continuation has none
module _ (s : List ℕ) where
  abbrev c : Conf
  c = (feed fresh s).next

  complete_by : (c.state ≡ Refused → ⊥) → (code_of c.state ≡ refused_code) ⊎ (state_fits c.state c.size ≡ true) → Free-3 s
  complete_by r (inl e) = absurd (r (code_refused c.state (eq-eqb (code_of c.state) refused_code e)))
  complete_by r (inr f) =
      let ys : List ℕ = completion c.state c.size in
      (ys, completion_bytes c.state c.size, ap (λ (t : Tokens). t.fault) (continued s ys) ∙ ap (λ (t : Tokens). t.fault) (left_whole ys c) ∙ done c.state c.start c.size f)

  pub complete_3 : ((feed fresh s).next.state ≡ Refused → ⊥) → Free-3 s
  complete_3 r = complete_by r (fine_feed s fresh (inr refl))
