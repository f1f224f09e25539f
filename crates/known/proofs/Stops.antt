-- Where the characters of a store stop tells of each of its parts whether it is UTF-8. The part and the store are gone through together,
-- character by character (`part_ends`): the part ends at a character's end, or inside one, where a tail stands.
use Rattle.std.specs.Prelude.{ℕ, Option, Some, None}
use Prim.Native.Nat.{ℕ, zero, suc, ◌+◌, ◌-◌, ◌*◌, ◌/◌, ◌%◌, ◌≤◌, ◌<◌}
use mathlib.Core.Path.{◌≡◌, refl, sym, ap, ◌∙◌}
use mathlib.Core.Bool.{Bool, true, false, not}
use mathlib.Core.List.{List}
use mathlib.Core.Logic.{⊎_elim}
use native.Mathlib.Omega.{arith}
use lib.ListN.{length, get_or, take, drop, length-drop, length-set}
use lib.Seq.{length-take-le, get_or-drop, get_or-set_same, get_or-set_other}
use borrow.Author.Tests.{lt-ltb, le-ltb, eq-eqb, ne_eqb}
use Rattle.text.specs.Booleans.{within}
use Rattle.text.specs.Scans.{sought, later}
use Rattle.text.specs.Utf8.{char_of, seq_look, look_by, first_bad}
use Rattle.text.proofs.Tests.{lt_or_ge, within_yes}
use Rattle.text.proofs.Pairs.{some_second}
use Rattle.text.proofs.Walks.{sought_stop, sought_end}
use Rattle.text.proofs.Decodes.{found, decoded}
use Rattle.text.proofs.Encodes.{look_step, look_ascii}
use Rattle.known.specs.Stops.{stop_of, is_through, stop_from, is_part, noted, Stops, ends_at}
use Rattle.known.proofs.Cuts.{cut_char, uncut_char, head_byte, tail_byte}

-- ---- stops

module _ (st : List ℕ) (i : ℕ) where
  pub stop_step : (c n : ℕ) → i < length st → char_of (drop i st) ≡ Some (c, n) → stop_from st i ≡ stop_from st (i + n)
  unfolding stop_from first_bad
  stop_step c n h e = ap (stop_of (length st)) (look_step st i c n h e)

  pub stop_ascii : i < length st → get_or st i 0 < 0x80 → stop_from st i ≡ stop_from st (i + 1)
  unfolding stop_from first_bad
  stop_ascii h a = ap (stop_of (length st)) (look_ascii st i h a)

  pub stop_bad : i < length st → char_of (drop i st) ≡ None → stop_from st i ≡ i
  unfolding stop_from first_bad
  stop_bad h e = ap (stop_of (length st)) (sought_stop seq_look st i h (ap look_by e))

  pub stop_end : length st ≤ i → stop_from st i ≡ length st
  unfolding stop_from first_bad
  stop_end h = ap (stop_of (length st)) (sought_end seq_look st i h)

-- a character lies inside
char_room : (st : List ℕ) (i c n : ℕ) → char_of (drop i st) ≡ Some (c, n) → (1 ≤ n) × (n ≤ length st - i)
char_room st i c n e =
    let d = decoded (drop i st) c n e in
    (d.some, omega (arith, d.inside, length-drop i st))

abbrev Between : List ℕ → ℕ → Type 0
Between st i = (i ≤ stop_from st i) × (stop_from st i ≤ length st)

between_by : (st : List ℕ) (d i : ℕ) → ((j : ℕ) → i < j → j ≤ length st → Between st j) → i < length st
    → (x : Option (ℕ × ℕ)) → char_of (drop i st) ≡ x → Between st i
between_by st d i ih h None e = let s = stop_bad st i h e in (omega arith, omega arith)
between_by st d i ih h (Some (c, n)) e =
    let r = char_room st i c n e in
    let s = stop_step st i c n h e in
    let b = ih (i + n) (omega (arith, r.0)) (omega (arith, r.1)) in
    (omega (arith, b.0), omega (arith, b.1))

between : (st : List ℕ) (d i : ℕ) → length st - i ≤ d → i ≤ length st → Between st i
between st zero i m h = let s = stop_end st i (omega arith) in (omega arith, omega arith)
between st (suc d) i m h = ⊎_elim
    (λ l. between_by st d i (λ j p q. between st d j (omega arith) q) l (char_of (drop i st)) refl)
    (λ g. let s = stop_end st i g in (omega arith, omega arith))
    (lt_or_ge i (length st))

pub stop_between : (st : List ℕ) (i : ℕ) → i ≤ length st → (i ≤ stop_from st i) × (stop_from st i ≤ length st)
stop_between st i h = between st (length st - i) i (omega arith) h

-- past a place that isn't a stop a character begins
clean_by : (st : List ℕ) (e : ℕ) → e < length st → (stop_from st e ≡ e → ⊥) → (x : Option (ℕ × ℕ)) → char_of (drop e st) ≡ x → within 0x80 0xbf (get_or st e 0) ≡ false
clean_by st e h g None q = absurd (g (stop_bad st e h q))
clean_by st e h g (Some (c, n)) q =
    let z : e + 0 ≡ e = omega arith in
    let b : get_or (drop e st) 0 0 ≡ get_or st e 0 = get_or-drop e st 0 0 ∙ ap (λ k. get_or st k 0) z in
    ap (within 0x80 0xbf) (sym b) ∙ head_byte (found (drop e st) c n q)

clean : (st : List ℕ) (e : ℕ) → e ≤ length st → (stop_from st e ≡ e → ⊥) → within 0x80 0xbf (get_or st e 0) ≡ false
clean st e h g = ⊎_elim
    (λ l. clean_by st e l g (char_of (drop e st)) refl)
    (λ k. absurd (g (omega (arith, stop_end st e k))))
    (lt_or_ge e (length st))

-- ---- what the ends of a part say

module _ (st : List ℕ) (stop e : ℕ) where
  pub ends_before : stop < e → ends_at st stop e ≡ false
  unfolding ends_at
  ends_before h = rw (lt-ltb stop e h)

  pub ends_there : stop ≡ e → ends_at st stop e ≡ true
  unfolding ends_at
  ends_there h = rw (le-ltb stop e (omega arith), eq-eqb stop e h)

  pub ends_past : (b : Bool) → e < stop → within 0x80 0xbf (get_or st e 0) ≡ b → ends_at st stop e ≡ not b
  unfolding ends_at
  ends_past b h g = rw (le-ltb stop e (omega arith), ne_eqb stop e (λ q. omega arith), g)

-- ---- parts

through_later : (i : ℕ) (r : Option ℕ) → is_through (later i r) ≡ is_through r
through_later i None = refl
through_later i (Some k) = refl

module _ (st : List ℕ) (i e : ℕ) (l : e ≤ length st) where
  long : length (take e st) ≡ e
  long = length-take-le e st l

  pub part_step : (c n : ℕ) → i < e → char_of (drop i st) ≡ Some (c, n) → n ≤ e - i → is_part st i e ≡ is_part st (i + n) e
  unfolding is_part first_bad
  part_step c n h q m =
      sym (through_later i (sought seq_look 0 (drop i (take e st)))) ∙ ap is_through (look_step (take e st) i c n (omega (arith, long)) (cut_char st i e c n q m)) ∙ through_later (i + n) (sought seq_look 0 (drop (i + n) (take e st)))

  part_stop : i < e → char_of (drop i (take e st)) ≡ None → is_part st i e ≡ false
  unfolding is_part first_bad
  part_stop h q = sym (through_later i (sought seq_look 0 (drop i (take e st)))) ∙ ap is_through (sought_stop seq_look (take e st) i (omega (arith, long)) (ap look_by q))

  pub part_end : e ≤ i → is_part st i e ≡ true
  unfolding is_part first_bad
  part_end h = sym (through_later i (sought seq_look 0 (drop i (take e st)))) ∙ ap is_through (sought_end seq_look (take e st) i (omega (arith, long)))

  -- what is bad in the store is bad in a part of it
  bad_by : char_of (drop i st) ≡ None → (x : Option (ℕ × ℕ)) → char_of (drop i (take e st)) ≡ x → char_of (drop i (take e st)) ≡ None
  bad_by q None p = p
  bad_by q (Some (c, n)) p =
      let u = uncut_char st i e c n p in
      let z : ◌≡◌ {A = ℕ} 0 1 = cc in
      absurd (omega arith)

  pub part_bad : i < e → char_of (drop i st) ≡ None → is_part st i e ≡ false
  part_bad h q = part_stop h (bad_by q (char_of (drop i (take e st))) refl)

  -- a character that the part cuts is bad in it
  cut_by : (c n : ℕ) → char_of (drop i st) ≡ Some (c, n) → e - i < n → (x : Option (ℕ × ℕ)) → char_of (drop i (take e st)) ≡ x → char_of (drop i (take e st)) ≡ None
  cut_by c n q m None p = p
  cut_by c n q m (Some (d, k)) p =
      let u = uncut_char st i e d k p in
      let z : n ≡ k = some_second (sym q ∙ u) in
      absurd (omega (arith, (char_room (take e st) i d k p).1, long))

  pub part_cut : (c n : ℕ) → i < e → char_of (drop i st) ≡ Some (c, n) → e - i < n → is_part st i e ≡ false
  part_cut c n h q m = part_stop h (cut_by c n q m (char_of (drop i (take e st))) refl)

-- ---- a part by the stop of its first character

abbrev Ends : List ℕ → ℕ → ℕ → Type 0
Ends st e i = is_part st i e ≡ ends_at st (stop_from st i) e

-- the end of a part where a character ends
end_here : (st : List ℕ) (e : ℕ) → e ≤ length st → ends_at st (stop_from st e) e ≡ true
end_here st e l =
    let b = stop_between st e l in
    ⊎_elim
    (λ h. ends_past st (stop_from st e) e false h (clean st e l (λ q. omega arith)))
    (λ g. ends_there st (stop_from st e) e (omega (arith, b.0)))
    (lt_or_ge e (stop_from st e))

module _ (st : List ℕ) (e : ℕ) (l : e ≤ length st) where
  -- a character that goes past the end: a tail stands there
  inside_char : (i c n : ℕ) → i < e → char_of (drop i st) ≡ Some (c, n) → e - i < n → ends_at st (stop_from st i) e ≡ false
  inside_char i c n h q m =
      let r = char_room st i c n q in
      let s = stop_step st i c n (omega arith) q in
      let b = stop_between st (i + n) (omega (arith, r.1)) in
      let t = tail_byte (e - i) (omega arith) m (found (drop i st) c n q) in
      let z : i + (e - i) ≡ e = omega arith in
      let y : get_or (drop i st) (e - i) 0 ≡ get_or st e 0 = get_or-drop i st (e - i) 0 ∙ ap (λ k. get_or st k 0) z in
      ends_past st (stop_from st i) e true (omega (arith, b.0)) (ap (within 0x80 0xbf) (sym y) ∙ within_yes 0x80 0xbf _ t.0 t.1)

  ends_by : (i : ℕ) → i < e → ((j : ℕ) → i < j → j < e → Ends st e j) → (x : Option (ℕ × ℕ)) → char_of (drop i st) ≡ x → Ends st e i
  ends_by i h ih None q =
      let s = stop_bad st i (omega arith) q in
      part_bad st i e l h q ∙ sym (ends_before st (stop_from st i) e (omega arith))
  ends_by i h ih (Some (c, n)) q =
      let r = char_room st i c n q in
      let s = stop_step st i c n (omega arith) q in
      ⊎_elim
      (λ m. part_cut st i e l c n h q m ∙ sym (inside_char i c n h q m))
      (λ m. part_step st i e l c n h q m ∙ ⊎_elim
      (λ k. ih (i + n) (omega (arith, r.0)) k)
      (λ k. let z : i + n ≡ e = omega arith in
      part_end st (i + n) e l k ∙ sym (end_here st e l) ∙ ap (λ j. ends_at st (stop_from st j) e) (sym z))
      (lt_or_ge (i + n) e) ∙ ap (λ x. ends_at st x e) (sym s))
      (lt_or_ge (e - i) n)

  ends_below : (d i : ℕ) → e - i ≤ d → i < e → Ends st e i
  ends_below zero i m h = absurd (omega arith)
  ends_below (suc d) i m h = ends_by i h (λ j p q. ends_below d j (omega arith) q) (char_of (drop i st)) refl

  pub part_ends : (i : ℕ) → i < e → is_part st i e ≡ ends_at st (stop_from st i) e
  part_ends i h = ends_below (e - i) i (omega arith) h

-- ---- for the functions

-- a stop that is known by the length of the character before it
pub stop_by : (st : List ℕ) (i c n k s : ℕ) → i < length st → char_of (drop i st) ≡ Some (c, n) → n ≡ k → s ≡ stop_from st (i + k) → s ≡ stop_from st i
stop_by st i c n k s h e q p = p ∙ ap (λ x. stop_from st (i + x)) (sym q) ∙ sym (stop_step st i c n h e)

-- a character that has neither one byte nor two nor three has four
pub stop_four : (st : List ℕ) (i c n s : ℕ) → i < length st → char_of (drop i st) ≡ Some (c, n) → (n ≡ 1 → ⊥) → (n ≡ 2 → ⊥) → (n ≡ 3 → ⊥) → s ≡ stop_from st (i + 4) → s ≡ stop_from st i
stop_four st i c n s h e p q r f =
    let d = decoded (drop i st) c n e in
    stop_by st i c n 4 s h e (omega (arith, d.some, d.few)) f

-- ---- the table, from the end on

-- the stops from i on are in the table, and the next four at hand
pub record Filled (st ks : List ℕ) (i s1 s2 s3 s4 : ℕ) : Type 0 where
  pub inside : i ≤ length st
  pub one : s1 ≡ stop_from st i
  pub two : s2 ≡ stop_from st (i + 1)
  pub three : s3 ≡ stop_from st (i + 2)
  pub four : s4 ≡ stop_from st (i + 3)
  pub size : length ks ≡ 4096
  pub at : (k : ℕ) → i ≤ k → k < length st → k % 64 < 4 → get_or ks (k / 64 * 4 + k % 64) 0 ≡ stop_from st k

pub filled_start : (st ks : List ℕ) → length ks ≡ 4096 → Filled st ks (length st) (length st) (length st) (length st) (length st)
filled_start st ks e = record {
  inside = omega arith;
  one = sym (stop_end st (length st) (omega arith));
  two = sym (stop_end st (length st + 1) (omega arith));
  three = sym (stop_end st (length st + 2) (omega arith));
  four = sym (stop_end st (length st + 3) (omega arith));
  size = e;
  at = λ k l h m. absurd (omega arith);
}

noted_at : (ks : List ℕ) (i x : ℕ) → i < 65536 → length ks ≡ 4096 → i % 64 < 4 → get_or (noted ks i x) (i / 64 * 4 + i % 64) 0 ≡ x
unfolding noted
noted_at ks i x h e m = rw (lt-ltb (i % 64) 4 m) (get_or-set_same ks (i / 64 * 4 + i % 64) x 0 (omega arith))

noted_other : (ks : List ℕ) (i x k : ℕ) → k % 64 < 4 → (k ≡ i → ⊥) → get_or (noted ks i x) (k / 64 * 4 + k % 64) 0 ≡ get_or ks (k / 64 * 4 + k % 64) 0
unfolding noted
noted_other ks i x k m n = ⊎_elim
    (λ l. rw (lt-ltb (i % 64) 4 l) (get_or-set_other ks (i / 64 * 4 + i % 64) (k / 64 * 4 + k % 64) x 0 (λ q. n (omega arith))))
    (λ g. rw (le-ltb (i % 64) 4 g))
    (lt_or_ge (i % 64) 4)

noted_size : (ks : List ℕ) (i x : ℕ) → length (noted ks i x) ≡ length ks
unfolding noted
noted_size ks i x = ⊎_elim
    (λ l. rw (lt-ltb (i % 64) 4 l) (length-set ks (i / 64 * 4 + i % 64) x))
    (λ g. rw (le-ltb (i % 64) 4 g))
    (lt_or_ge (i % 64) 4)

module _ (st ks : List ℕ) (i s1 s2 s3 s4 : ℕ) (p : 0 < i) (f : Filled st ks i s1 s2 s3 s4) where
  -- the four that come after the place before
  pub next_one : s1 ≡ stop_from st (i - 1 + 1)
  next_one = let z : i - 1 + 1 ≡ i = omega arith in f.one ∙ ap (stop_from st) (sym z)

  pub next_two : s2 ≡ stop_from st (i - 1 + 2)
  next_two = let z : i - 1 + 2 ≡ i + 1 = omega arith in f.two ∙ ap (stop_from st) (sym z)

  pub next_three : s3 ≡ stop_from st (i - 1 + 3)
  next_three = let z : i - 1 + 3 ≡ i + 2 = omega arith in f.three ∙ ap (stop_from st) (sym z)

  pub next_four : s4 ≡ stop_from st (i - 1 + 4)
  next_four = let z : i - 1 + 4 ≡ i + 3 = omega arith in f.four ∙ ap (stop_from st) (sym z)

  kept : (x : ℕ) → length st ≤ 65536 → x ≡ stop_from st (i - 1) → (k : ℕ) → i - 1 ≤ k → k < length st → k % 64 < 4
      → get_or (noted ks (i - 1) x) (k / 64 * 4 + k % 64) 0 ≡ stop_from st k
  kept x l e k h m n = ⊎_elim
      (λ q. noted_other ks (i - 1) x k n (λ z. omega arith) ∙ f.at k (omega arith) m n)
      (λ q. let z : k ≡ i - 1 = omega arith in
      rw z (noted_at ks (i - 1) x (omega arith) f.size (rw z at n) ∙ e))
      (lt_or_ge (i - 1) k)

  pub filled_step : (ks' : List ℕ) (x : ℕ) → length st ≤ 65536 → x ≡ stop_from st (i - 1) → ks' ≡ noted ks (i - 1) x → Filled st ks' (i - 1) x s1 s2 s3
  filled_step ks' x l e q = rw q record {
    inside = omega (arith, f.inside);
    one = e;
    two = next_one;
    three = next_two;
    four = next_three;
    size = noted_size ks (i - 1) x ∙ f.size;
    at = kept x l e;
  }

pub filled_end : (st ks : List ℕ) (i s1 s2 s3 s4 : ℕ) → i ≤ 0 → Filled st ks i s1 s2 s3 s4 → Stops st ks
filled_end st ks i s1 s2 s3 s4 z f = record { at = λ k h m. f.at k (omega arith) h m }
