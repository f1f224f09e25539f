-- Where the words of a store stop tells of each of its parts whether it is all of letters, `_` and digits.
use Prim.Native.Nat.{ℕ, zero, suc, ◌+◌, ◌-◌, ◌/◌, ◌%◌, ◌≤◌, ◌<◌}
use mathlib.Core.Path.{◌≡◌, refl, sym, ap, ◌∙◌}
use mathlib.Core.Bool.{Bool, true, false}
use mathlib.Core.List.{List}
use mathlib.Core.Logic.{⊎_elim}
use native.Mathlib.Omega.{arith}
use lib.Dec.{leb, eqb}
use lib.ListN.{length, get_or, take, drop, length-set}
use lib.Seq.{length-take-le, get_or-take, drop-drop, get_or-set_same, get_or-set_other}
use borrow.Author.Tests.{le-leb, lt-leb, eq-eqb, ne_eqb, eqb-true, eqb-false}
use Rattle.text.specs.Booleans.{choose, and, all}
use Rattle.text.specs.Words.{starts_word, in_word, is_word, begins, push, word_of}
use Rattle.text.specs.declared.Word.TheVariants.{Name, Push, Neither}
use Rattle.text.proofs.Tests.{lt_or_ge, at_byte, at_end}
use Rattle.text.proofs.Runs.{all_step, all_stop, all_end, word_at, word_empty}
use Rattle.known.specs.Runs.{run, run_from, noted, Runs}
use Rattle.known.proofs.Cuts.{drop_take}

module _ (st : List ℕ) (i : ℕ) where
  pub run_step : i < length st → in_word (get_or st i 0) ≡ true → run_from st i ≡ run_from st (i + 1)
  unfolding run_from run
  run_step h e =
      let z : i + suc (run (drop (i + 1) st)) ≡ i + 1 + run (drop (i + 1) st) = omega arith in
      rw (at_byte st i h, run, e) z

  pub run_stop : i < length st → in_word (get_or st i 0) ≡ false → run_from st i ≡ i
  unfolding run_from run
  run_stop h e =
      let z : i + 0 ≡ i = omega arith in
      rw (at_byte st i h, run, e) z

  run_none : length st ≤ i → run_from st i ≡ i
  unfolding run_from run
  run_none h =
      let z : i + 0 ≡ i = omega arith in
      rw (at_end st i h) z

pub run_end : (st : List ℕ) → length st ≡ run_from st (length st)
run_end st = sym (run_none st (length st) (omega arith))

by_byte : (P : Type 0) (b : Bool) → (b ≡ true → P) → (b ≡ false → P) → P
by_byte P true f g = f refl
by_byte P false f g = g refl

-- a run stops inside
abbrev Between : List ℕ → ℕ → Type 0
Between st i = (i ≤ run_from st i) × (run_from st i ≤ length st)

between : (st : List ℕ) (d i : ℕ) → length st - i ≤ d → i ≤ length st → Between st i
between st zero i m h = let s = run_none st i (omega arith) in (omega arith, omega arith)
between st (suc d) i m h = ⊎_elim
    (λ l. by_byte (Between st i) (in_word (get_or st i 0))
    (λ e. let s = run_step st i l e in let b = between st d (i + 1) (omega arith) (omega arith) in (omega (arith, b.0), omega (arith, b.1)))
    (λ e. let s = run_stop st i l e in (omega arith, omega arith)))
    (λ g. let s = run_none st i g in (omega arith, omega arith))
    (lt_or_ge i (length st))

pub run_between : (st : List ℕ) (i : ℕ) → i ≤ length st → (i ≤ run_from st i) × (run_from st i ≤ length st)
run_between st i h = between st (length st - i) i (omega arith) h

-- ---- parts

module _ (st : List ℕ) (e : ℕ) (l : e ≤ length st) where
  long : length (take e st) ≡ e
  long = length-take-le e st l

  byte : (i : ℕ) → i < e → get_or (take e st) i 0 ≡ get_or st i 0
  byte i h = get_or-take e st i 0 h

  pub part_step : (i : ℕ) → i < e → in_word (get_or st i 0) ≡ true → all in_word (drop i (take e st)) ≡ all in_word (drop (i + 1) (take e st))
  part_step i h q = all_step in_word (take e st) i (omega (arith, long)) (ap in_word (byte i h) ∙ q)

  pub part_stop : (i : ℕ) → i < e → in_word (get_or st i 0) ≡ false → all in_word (drop i (take e st)) ≡ false
  part_stop i h q = all_stop in_word (take e st) i (omega (arith, long)) (ap in_word (byte i h) ∙ q)

  pub part_end : (i : ℕ) → e ≤ i → all in_word (drop i (take e st)) ≡ true
  part_end i h = all_end in_word (take e st) i (omega (arith, long))

  abbrev Runs-to : ℕ → Type 0
  Runs-to i = all in_word (drop i (take e st)) ≡ leb e (run_from st i)

  runs_below : (d i : ℕ) → e - i ≤ d → i ≤ e → Runs-to i
  runs_below zero i m h =
      let b = run_between st i (omega arith) in
      part_end i (omega arith) ∙ sym (le-leb e (run_from st i) (omega (arith, b.0)))
  runs_below (suc d) i m h = ⊎_elim
      (λ k. by_byte (Runs-to i) (in_word (get_or st i 0))
      (λ q. part_step i k q ∙ runs_below d (i + 1) (omega arith) (omega arith) ∙ ap (leb e) (sym (run_step st i (omega arith) q)))
      (λ q. part_stop i k q ∙ sym (lt-leb e (run_from st i) (omega (arith, run_stop st i (omega arith) q)))))
      (λ g. part_end i g ∙ sym (le-leb e (run_from st i) (omega (arith, (run_between st i (omega arith)).0))))
      (lt_or_ge i e)

  pub part_runs : (i : ℕ) → i ≤ e → all in_word (drop i (take e st)) ≡ leb e (run_from st i)
  part_runs i h = runs_below (e - i) i (omega arith) h

  -- a word by its first byte and the others
  pub part_word : (p : ℕ) → p < e → is_word (drop p (take e st)) ≡ and (starts_word (get_or st p 0)) (all in_word (drop (p + 1) (take e st)))
  part_word p h =
      let b = at_byte (take e st) p (omega (arith, long)) in
      let g : get_or (drop p (take e st)) 0 0 ≡ get_or st p 0 = ap (λ x. get_or x 0 0) b ∙ byte p h in
      let n : length (drop p (take e st)) ≡ 0 → ⊥ = λ z. omega (arith, ap length b) in
      word_at (drop p (take e st)) n ∙ rw (g, drop-drop)

pub part_none : (st : List ℕ) (p e : ℕ) → p ≡ e → e ≤ length st → is_word (drop p (take e st)) ≡ false
part_none st p e q l = word_empty (drop p (take e st)) (ap length (at_end (take e st) p (omega (arith, length-take-le e st l))))

-- what kind of word a part is, test by test
module _ (st : List ℕ) (p e : ℕ) (l : e ≤ length st) where
  pub word_none : p ≡ e → word_of (drop p (take e st)) ≡ Neither
  unfolding word_of
  word_none q = rw (part_none st p e q l)

  pub word_start : p < e → starts_word (get_or st p 0) ≡ false → word_of (drop p (take e st)) ≡ Neither
  unfolding word_of
  word_start h q = rw (part_word st e l p h, q)

  pub word_rest : p < e → starts_word (get_or st p 0) ≡ true → all in_word (drop (p + 1) (take e st)) ≡ false → word_of (drop p (take e st)) ≡ Neither
  unfolding word_of
  word_rest h q r = rw (part_word st e l p h, q, r)

  pub word_front : p < e → starts_word (get_or st p 0) ≡ true → all in_word (drop (p + 1) (take e st)) ≡ true
      → (b : Bool) → begins push (take (e - p) (drop p st)) ≡ b → word_of (drop p (take e st)) ≡ choose b (λ u. Push) (λ u. Name)
  unfolding word_of
  word_front h q r b f =
      let g : begins push (drop p (take e st)) ≡ b = ap (begins push) (drop_take p e st) ∙ f in
      rw (part_word st e l p h, q, r, g)

-- ---- the table, from the end on

pub record Filled (st ks : List ℕ) (i s : ℕ) : Type 0 where
  pub inside : i ≤ length st
  pub stop : s ≡ run_from st i
  pub size : length ks ≡ 1024
  pub at : (k : ℕ) → i ≤ k → k < length st → k % 64 ≡ 0 → get_or ks (k / 64) 0 ≡ run_from st k

pub filled_start : (st ks : List ℕ) → length ks ≡ 1024 → Filled st ks (length st) (length st)
filled_start st ks e = record { inside = omega arith; stop = run_end st; size = e; at = λ k l h m. absurd (omega arith) }

by_eq : (P : Type 0) (a b : ℕ) (x : Bool) → eqb a b ≡ x → (a ≡ b → P) → ((a ≡ b → ⊥) → P) → P
by_eq P a b true e f g = f (eqb-true a b e)
by_eq P a b false e f g = g (eqb-false a b e)

noted_at : (ks : List ℕ) (i x : ℕ) → i < 65536 → length ks ≡ 1024 → i % 64 ≡ 0 → get_or (noted ks i x) (i / 64) 0 ≡ x
unfolding noted
noted_at ks i x h e m = rw (eq-eqb (i % 64) 0 m) (get_or-set_same ks (i / 64) x 0 (omega arith))

noted_other : (ks : List ℕ) (i x k : ℕ) → k % 64 ≡ 0 → (k ≡ i → ⊥) → get_or (noted ks i x) (k / 64) 0 ≡ get_or ks (k / 64) 0
unfolding noted
noted_other ks i x k m n = by_eq _ (i % 64) 0 (eqb (i % 64) 0) refl
    (λ l. rw (eq-eqb (i % 64) 0 l) (get_or-set_other ks (i / 64) (k / 64) x 0 (λ q. n (omega arith))))
    (λ g. rw (ne_eqb (i % 64) 0 g))

noted_size : (ks : List ℕ) (i x : ℕ) → length (noted ks i x) ≡ length ks
unfolding noted
noted_size ks i x = by_eq _ (i % 64) 0 (eqb (i % 64) 0) refl
    (λ l. rw (eq-eqb (i % 64) 0 l) (length-set ks (i / 64) x))
    (λ g. rw (ne_eqb (i % 64) 0 g))

module _ (st ks : List ℕ) (i s : ℕ) (p : 0 < i) (f : Filled st ks i s) where
  pub next_stop : s ≡ run_from st (i - 1 + 1)
  next_stop = let z : i - 1 + 1 ≡ i = omega arith in f.stop ∙ ap (run_from st) (sym z)

  kept : (x : ℕ) → length st ≤ 65536 → x ≡ run_from st (i - 1) → (k : ℕ) → i - 1 ≤ k → k < length st → k % 64 ≡ 0
      → get_or (noted ks (i - 1) x) (k / 64) 0 ≡ run_from st k
  kept x l e k h m n = ⊎_elim
      (λ q. noted_other ks (i - 1) x k n (λ z. omega arith) ∙ f.at k (omega arith) m n)
      (λ q. let z : k ≡ i - 1 = omega arith in
      rw z (noted_at ks (i - 1) x (omega arith) f.size (rw z at n) ∙ e))
      (lt_or_ge (i - 1) k)

  pub filled_step : (ks' : List ℕ) (x : ℕ) → length st ≤ 65536 → x ≡ run_from st (i - 1) → ks' ≡ noted ks (i - 1) x → Filled st ks' (i - 1) x
  filled_step ks' x l e q = rw q record {
    inside = omega (arith, f.inside);
    stop = e;
    size = noted_size ks (i - 1) x ∙ f.size;
    at = kept x l e;
  }

pub filled_end : (st ks : List ℕ) (i s : ℕ) → i ≤ 0 → Filled st ks i s → Runs st ks
filled_end st ks i s z f = record { at = λ k h m. f.at k (omega arith) h m }
