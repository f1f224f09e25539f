-- What calls make always passes the test at the entry, so that a stream comes back from its numbers as it was.
use Rattle.std.specs.Prelude.{Some, None}
use Prim.Native.Nat.{ℕ, suc, ◌+◌, ◌-◌, ◌≤◌, ◌<◌}
use mathlib.Core.Path.{◌≡◌, refl, ap, ◌∙◌}
use mathlib.Core.Bool.{Bool, true, false}
use mathlib.Core.List.{List, [], ◌∷◌}
use mathlib.Core.Logic.{◌⊎◌, inl, inr}
use native.Mathlib.Omega.{arith}
use lib.Dec.{leb, ltb, eqb}
use lib.ListN.{length}
use borrow.Author.Tests.{ltb-true, ltb-false, leb-true, lt-ltb, le-leb, ne_eqb}
use Rattle.text.specs.Booleans.{choose, among}
use Rattle.text.proofs.Booleans.{and_both, and_true, choose_by}
use Rattle.text.specs.Limits.{max_text}
use Rattle.token.specs.Lists.{Tok}
use Rattle.states.specs.declared.Tail.{Tail}
use Rattle.states.specs.declared.Tail.TheVariants.{T1, T2, T3, TE0, TED, TF0, TF4}
use Rattle.states.specs.declared.State.{State}
use Rattle.states.specs.declared.Conf.{Conf}
use Rattle.states.specs.declared.Utf.{Utf}
use Rattle.states.specs.declared.Utf.TheVariants.{Whole, Mid, Broke}
use Rattle.states.specs.declared.Stand.{Stand}
use Rattle.states.specs.declared.Status.TheVariants.{Open, Held}
use Rattle.states.specs.declared.Feed.{Feed}
use Rattle.states.specs.Machine.{Out, step, tail_ok}
use Rattle.states.specs.Utf.{utf_lead, utf_next, utf_step, broken_at}
use Rattle.states.specs.Keep.{code_of, refused_code, state_of, utf_of, utf_code, utf_start, waiting, state_fits, utf_fits}
use Rattle.states.specs.Feed.{fits, numbered, stand_by, stand_of, refusals, opened}
use Rattle.states.specs.Steps.{Goes, long_at, refused_at, step_of, ran_of, begin}
use Rattle.states.proofs.Small.{wait_some}
use Rattle.states.proofs.Back.{state_back, state_back_lem, utf_back}
use Rattle.states.proofs.Fits.{never, Fit, FitO, row_fits}
use Rattle.states.proofs.Runs.{took, followed_goes}

-- ---- a stream whose numbers fit one another

pub record Fitting (c : Stand) : Type 0 where
  pub short : c.seen ≤ max_text
  pub fit : Fit c.conf.state c.conf.start c.conf.size c.seen c.count
  pub sound : utf_fits c.utf c.seen ≡ true

pub fitting_begin : Fitting begin
fitting_begin = record { short = omega arith; fit = record { sum = refl; count = omega arith; state = refl }; sound = refl }

-- ---- a byte

pub long_good : (n : ℕ) → long_at n ≡ None → n ≤ max_text
unfolding long_at
long_good n = choose_by (λ k. k ≡ None → n ≤ max_text) (ltb max_text n) _ _ (λ e g. let z : ◌≡◌ {A = ℕ} 0 1 = cc in absurd (omega arith)) (λ e g. ltb-false max_text n e)

pub refused_good : (c : Conf) → refused_at c ≡ None → code_of c.state ≡ refused_code → ⊥
unfolding refused_at
refused_good c g e = let z : Some c.start ≡ None = rw e at g in let y : ◌≡◌ {A = ℕ} 0 1 = cc in omega arith

next_fits : (t : Tail) (s n : ℕ) → s < n → utf_fits (utf_next t s) n ≡ true
next_fits T1 s n h = refl
next_fits T2 s n h = lt-ltb s n h
next_fits T3 s n h = lt-ltb s n h
next_fits TE0 s n h = lt-ltb s n h
next_fits TED s n h = lt-ltb s n h
next_fits TF0 s n h = lt-ltb s n h
next_fits TF4 s n h = lt-ltb s n h

-- a sequence that is in hand began before the next byte
abbrev Mids : ℕ → Utf → Type 0
Mids n u = broken_at u ≡ None → utf_fits u n ≡ true

mids_broke : (n p : ℕ) → Mids n (Broke p)
mids_broke n p g = let z : ◌≡◌ {A = ℕ} 0 1 = cc in absurd (omega arith)

mids_two : (n : ℕ) (b : Bool) (f g : Unit {0} → Utf) → Mids n (f tt) → Mids n (g tt) → Mids n (choose b f g)
mids_two n true f g y z = y
mids_two n false f g y z = z

lead_mids : (n x : ℕ) → Mids (suc n) (utf_lead n x)
unfolding utf_lead
lead_mids n x =
    let h : ltb n (suc n) ≡ true = lt-ltb n (suc n) (omega arith) in
    mids_two (suc n) (ltb x 0x80) _ _ (λ g. refl)
    (mids_two (suc n) (ltb x 0xc2) _ _ (mids_broke (suc n) n)
    (mids_two (suc n) (ltb x 0xe0) _ _ (λ g. h)
    (mids_two (suc n) (eqb x 0xe0) _ _ (λ g. h)
    (mids_two (suc n) (eqb x 0xed) _ _ (λ g. h)
    (mids_two (suc n) (ltb x 0xf0) _ _ (λ g. h)
    (mids_two (suc n) (eqb x 0xf0) _ _ (λ g. h)
    (mids_two (suc n) (ltb x 0xf4) _ _ (λ g. h) (mids_two (suc n) (eqb x 0xf4) _ _ (λ g. h) (mids_broke (suc n) n)))))))))

utf_fits_lem : (u : Utf) (n x : ℕ) → utf_fits u n ≡ true → Mids (suc n) (utf_step u n x)
utf_fits_lem Whole n x f = lead_mids n x
utf_fits_lem (Mid t s) n x f =
    let h : s < n = ltb-true s n f in
    mids_two (suc n) (tail_ok t x) _ _ (λ g. next_fits t s (suc n) (omega arith)) (mids_broke (suc n) s)
utf_fits_lem (Broke p) n x f = never f

fit_of : (s k : ℕ) (o : Out) → refused_at o.next ≡ None → FitO s k o → Fit o.next.state o.next.start o.next.size (suc s) (k + length o.gives)
fit_of s k o g (inl e) = absurd (refused_good o.next g e)
fit_of s k o g (inr f) = f

module _ (r : ℕ) where
  -- a byte that is not refused keeps the numbers fitting
  pub fitting_step : (c : Stand) (x : ℕ) (ts : List Tok) (d : Stand) → Fitting c → step_of r c x ≡ Goes ts d → Fitting d
  fitting_step c x ts d h e =
      let o : Out = step c.conf x in
      let k = took r c x ts d e in
      rw k.moved
      (record {
        short = long_good (suc c.seen) k.short;
        fit = fit_of c.seen c.count o k.going (row_fits c.seen c.count c.conf.start c.conf.size c.conf.state x h.fit);
        sound = utf_fits_lem c.utf c.seen x h.sound k.sound;
      })

  pub fitting_ran : (xs : List ℕ) (c : Stand) (ts : List Tok) (d : Stand) → Fitting c → ran_of r c xs ≡ Goes ts d → Fitting d
  unfolding ran_of
  fitting_ran [] c ts d h e =
      let i : c ≡ d = cc in
      rw (← i) h
  fitting_ran (x ∷ xs) c ts d h e =
      let p = followed_goes (step_of r c x) (λ z. ran_of r z xs) ts d e in
      fitting_ran xs p.stand p.second d (fitting_step c x p.first p.stand h p.one) p.two

-- ---- the test

pub fitting_test : (c : Stand) → Fitting c → fits c ≡ true
unfolding fits
fitting_test c h =
    let e : c.conf.start + (c.conf.size + waiting c.conf.state) ≡ c.seen = h.fit.sum in
    and_both (leb c.seen max_text) _ (le-leb c.seen max_text h.short)
    (and_both (leb c.conf.start c.seen) _ (le-leb c.conf.start c.seen (omega arith))
    (and_both (leb c.count c.conf.start) _ (le-leb c.count c.conf.start h.fit.count) (and_both (state_fits c.conf.state c.conf.size) (utf_fits c.utf c.seen) h.fit.state h.sound)))

sum_by : (a s w : ℕ) → a ≤ s → (w ≡ 0) ⊎ ((w ≡ 1) × (0 < s - a - w)) → a + (s - a - w + w) ≡ s
sum_by a s w h (inl e) = omega arith
sum_by a s w h (inr e) =
    let f : w ≡ 1 = e.0 in
    let g : 0 < s - a - w = e.1 in
    omega arith

fitting_by : (f : Feed) (q : State) → fits (stand_by f q) ≡ true → Fitting (stand_by f q)
unfolding fits
fitting_by f q e =
    let c : Stand = stand_by f q in
    let g = and_true (leb c.seen max_text) _ e in
    let h = and_true (leb c.conf.start c.seen) _ g.1 in
    let i = and_true (leb c.count c.conf.start) _ h.1 in
    let j = and_true (state_fits q c.conf.size) (utf_fits c.utf c.seen) i.1 in
    record {
      short = leb-true c.seen max_text g.0;
      fit =
          record {
            sum = sum_by f.start f.seen (waiting q) (leb-true f.start f.seen h.0) (wait_some q c.conf.size j.0);
            count = leb-true c.count c.conf.start i.0;
            state = j.0;
          };
      sound = j.1;
    }

-- numbers that pass the test, wherever they come from
pub test_fitting : (f : Feed) → fits (stand_of f) ≡ true → Fitting (stand_of f)
unfolding stand_of
test_fitting f e = fitting_by f (state_of f.state f.kind f.backslash f.depth) e

-- ---- and back

stand_back : (c : Stand) → Fitting c → stand_of (numbered (Open c)) ≡ c
unfolding stand_of
stand_back c h =
    let e : c.conf.start + (c.conf.size + waiting c.conf.state) ≡ c.seen = h.fit.sum in
    let q : state_back c.conf.state ≡ c.conf.state = state_back_lem c.conf.state c.conf.size h.fit.state in
    let w : c.seen - c.conf.start - waiting (state_back c.conf.state) ≡ c.conf.size = rw q (omega arith) in
    let u : utf_of (utf_code c.utf) (utf_start c.utf) ≡ c.utf = utf_back c.utf c.seen h.sound in
    (λ i. record { conf = record { state = q i; start = c.conf.start; size = w i }; utf = u i; seen = c.seen; count = c.count })

-- the numbers of an open stream are read as that stream
pub kept_open : (c : Stand) → Fitting c → opened (numbered (Open c)) ≡ Open c
unfolding opened
kept_open c h =
    let e : fits (stand_of (numbered (Open c))) ≡ true = ap fits (stand_back c h) ∙ fitting_test c h in
    rw e (ap Open (stand_back c h))

-- and those of a held refusal as that refusal
pub kept_held : (number place n : ℕ) → among refusals number ≡ true → (number ≡ 0 → ⊥) → opened (numbered (Held number place n)) ≡ Held number place n
unfolding opened
kept_held number place n e h = rw (ne_eqb number 0 h, e)
