-- A matched length parts the line between two characters. Every visit that begins at such a place ends at one: texts of the store are UTF-8,
-- and so are bytes of the line that differ from them in ASCII case at most; ANY and ranges take whole characters.
use Rattle.std.specs.Prelude.{ℕ, Option, Some, None, Ok}
use mathlib.Core.Bool.{Bool, true, false}
use mathlib.Core.Path.{◌≡◌, refl, sym, ap, ◌∙◌, subst}
use mathlib.Core.List.{List, [], ◌∷◌, map}
use Prim.Native.Nat.{ℕ, zero, suc, ◌+◌, ◌-◌, ◌≤◌, ◌<◌}
use native.Mathlib.Omega.{arith}
use native.Mathlib.Decide.{dec_lt}
use lib.Dec.{eqb, leb}
use lib.ListN.{length, take, drop, length-take, length-drop}
use borrow.Author.Tests.{eqb-true}
use Rattle.table.proofs.Booleans.{and_true}
use Rattle.table.specs.declared.Join.TheVariants as Join
use Rattle.table.specs.declared.Unary.{Unary}
use Rattle.table.specs.declared.Sort.TheVariants as Sort
use Rattle.table.specs.declared.Leaf.TheVariants as Leaf
use Rattle.table.specs.declared.Op.TheVariants as Op
use Rattle.table.specs.declared.Node.{Node}
use Rattle.table.specs.Characters.{choose, within, char_of, first_bad}
use Rattle.table.specs.Record.{nodes_in, part, node_at}
use Rattle.table.specs.Check.{Valid}
use Rattle.table.specs.Check as Check
use Rattle.table.proofs.Nodes.{sound_tip, sound_below}
use Rattle.table.proofs.Texts.{leaf_inside_lem, leaf_fine, utf8_is}
use Rattle.table.proofs.Characters.{Edge, edge_first, edge_more, edge_char, Keeps, good_map}
use Rattle.links.specs.declared.Act.{Act}
use Rattle.links.specs.declared.Act.TheVariants.{Text, Range, Any, Call, PosPred, NegPred, Seq, Choice, Repeat, Unfit}
use Rattle.replies.specs.declared.Answer.TheVariants.{Matched}
use Rattle.links.specs.Program.{linked, unary_act, act_of, link_at, number, program}
use Rattle.matcher.specs.Match.{lower, starts, any_character}
use Rattle.matcher.specs.Runs.{Verdict, up_to, none, tested, tested_one, Task, node, inner, more, Runs, visited, text, range, any, call, pos, pos_not, neg, neg_not, seq, seq_not, choice, choice_not, repeated, unfit, filled, again, ended}
use Rattle.matcher.specs.Answers.{match_of}
use Rattle.links.specs.Ready.{ready_of}
use Rattle.matcher.proofs.Leaves.{lower_below, lower_above, lower_letter}
use Rattle.links.proofs.Naming.{node_none}
use Rattle.links.proofs.Asked.{ready_allows}
use Rattle.matcher.proofs.Counted.{counted}

-- ---- bytes that are alike

lower_keeps : Keeps lower
lower_keeps = record { low = λ x h. under x h (dec_lt x 65) (dec_lt 90 x); high = λ x h. sym (lower_above x (omega arith)) }
  where
    under : (x : ℕ) → x < 128 → Dec (x < 65) → Dec (90 < x) → lower x < 128
    under x h (yes l) d = omega (arith, lower_below x l)
    under x h (no l) (yes m) = omega (arith, lower_above x m)
    under x h (no l) (no m) = omega (arith, lower_letter x (omega arith) (omega arith))

starts_same : (xs ys : List ℕ) → starts false xs ys ≡ true → (take (length xs) ys ≡ xs) × (length xs ≤ length ys)
unfolding starts
starts_same [] [] e = (refl, omega arith)
starts_same [] (y ∷ ys) e = (refl, omega arith)
starts_same (x ∷ xs) [] e = let z : ◌≡◌ {A = ℕ} 0 1 = cc in absurd (omega arith)
starts_same (x ∷ xs) (y ∷ ys) e =
    let b = and_true (eqb x y) (starts false xs ys) e in
    let p : y ≡ x = sym (eqb-true x y b.0) in
    let r = starts_same xs ys b.1 in
    (ap (λ z. z ∷ take (length xs) ys) p ∙ ap (λ z. x ∷ z) r.0, omega (arith, r.1))

starts_lower : (xs ys : List ℕ) → starts true xs ys ≡ true → (map lower (take (length xs) ys) ≡ map lower xs) × (length xs ≤ length ys)
unfolding starts
starts_lower [] [] e = (refl, omega arith)
starts_lower [] (y ∷ ys) e = (refl, omega arith)
starts_lower (x ∷ xs) [] e = let z : ◌≡◌ {A = ℕ} 0 1 = cc in absurd (omega arith)
starts_lower (x ∷ xs) (y ∷ ys) e =
    let b = and_true (eqb (lower x) (lower y)) (starts true xs ys) e in
    let p : lower y ≡ lower x = sym (eqb-true (lower x) (lower y) b.0) in
    let r = starts_lower xs ys b.1 in
    (ap (λ z. z ∷ map lower (take (length xs) ys)) p ∙ ap (λ z. lower x ∷ z) r.0, omega (arith, r.1))

starts_good : (f : Bool) (xs ys : List ℕ) → first_bad xs ≡ None → starts f xs ys ≡ true → (first_bad (take (length xs) ys) ≡ None) × (length xs ≤ length ys)
starts_good false xs ys g e = let r = starts_same xs ys e in (ap first_bad r.0 ∙ g, r.1)
starts_good true xs ys g e =
    let r = starts_lower xs ys e in
    (sym (good_map lower lower_keeps (take (length xs) ys)) ∙ ap first_bad r.0 ∙ good_map lower lower_keeps xs ∙ g, r.1)

-- ---- texts of a program are UTF-8

abbrev Fine : List ℕ → Act → Type 0
Fine st (Text f p n) = (first_bad (part st p n) ≡ None) × (p + n ≤ length st)
Fine st (Range a b) = Unit {0}
Fine st Any = Unit {0}
Fine st (Call r) = Unit {0}
Fine st (PosPred c) = Unit {0}
Fine st (NegPred c) = Unit {0}
Fine st (Seq a b) = Unit {0}
Fine st (Choice a b) = Unit {0}
Fine st (Repeat c lo hi) = Unit {0}
Fine st Unfit = Unit {0}

fine_linked : (st : List ℕ) (l : ℕ) → Fine st (linked l)
fine_linked st zero = tt
fine_linked st (suc l) = tt

fine_choose : (st : List ℕ) (b : Bool) (x y : Act) → Fine st x → Fine st y → Fine st (choose b (λ u. x) (λ u. y))
fine_choose st true x y f g = f
fine_choose st false x y f g = g

fine_unary : (st : List ℕ) (u : Unary) (c : ℕ) → Fine st (unary_act u c)
fine_unary st Unary.PosPred c = tt
fine_unary st Unary.NegPred c = tt
fine_unary st Unary.Opt c = tt
fine_unary st Unary.Rep c = tt
fine_unary st Unary.RepOnce c = tt
fine_unary st (Unary.RepExact k) c = tt
fine_unary st (Unary.RepMin k) c = tt
fine_unary st (Unary.RepMax k) c = tt
fine_unary st (Unary.RepMinMax k m) c = fine_choose st (leb k m) _ _ tt tt
fine_unary st Unary.Push c = tt

module _ (ns rs st : List ℕ) (v : Valid ns rs st) where
  module _ (i : ℕ) (l : i < nodes_in ns) where
    so_far : Check.SoundUpTo ns st (i + 1)
    so_far = sound_below (i + 1) (omega arith) v.nodes

    fine_at : (x : Node) (k : ℕ) → node_at ns i ≡ x → Fine st (act_of x k)
    unfolding act_of
    fine_at (Node.Tip (Leaf.Text Sort.Str p n)) k e = let g = sound_tip ns st i so_far e in (utf8_is (part st p n) (leaf_fine st (Leaf.Text Sort.Str p n) g), leaf_inside_lem st Sort.Str p n g)
    fine_at (Node.Tip (Leaf.Text Sort.Insens p n)) k e = let g = sound_tip ns st i so_far e in (utf8_is (part st p n) (leaf_fine st (Leaf.Text Sort.Insens p n) g), leaf_inside_lem st Sort.Insens p n g)
    fine_at (Node.Tip (Leaf.Text Sort.Ident p n)) k e = fine_linked st k
    fine_at (Node.Tip (Leaf.Text Sort.PushLiteral p n)) k e = tt
    fine_at (Node.Tip (Leaf.Range a b)) k e = tt
    fine_at (Node.Tip (Leaf.PeekSlice a b)) k e = tt
    fine_at (Node.One (Op.Plain u) c) k e = fine_unary st u c
    fine_at (Node.One (Op.NodeTag p n) c) k e = tt
    fine_at (Node.Two Join.Seq a b) k e = tt
    fine_at (Node.Two Join.Choice a b) k e = tt
    fine_at Node.Unknown k e = tt

  fine_program : (i : ℕ) → Fine st (program ns rs st i)
  unfolding program act_of
  fine_program i = by (dec_lt i (nodes_in ns))
    where
      by : Dec (i < nodes_in ns) → Fine st (act_of (node_at ns i) (number (link_at ns rs st i)))
      by (yes l) = fine_at i l (node_at ns i) (number (link_at ns rs st i)) refl
      by (no l) = subst (λ x. Fine st (act_of x (number (link_at ns rs st i)))) (sym (node_none ns i (omega (arith, v.whole_nodes)))) tt

-- ---- runs

module _ (prog : ℕ → Act) (st line : List ℕ) (fine : (i : ℕ) → Fine st (prog i)) where
  abbrev Lands : Verdict → Type 0
  Lands (up_to e) = Edge line e
  Lands none = Unit {0}

  abbrev FineTask : Task → Type 0
  FineTask (node i) = Unit {0}
  FineTask (inner x) = Fine st x
  FineTask (more c lo hi k) = Unit {0}

  lands_test : (b : Bool) (e : ℕ) → (b ≡ true → Edge line e) → Lands (tested b e)
  lands_test true e h = h refl
  lands_test false e h = tt

  lands_text : (f : Bool) (p n at : ℕ) → Fine st (Text f p n) → Edge line at → Lands (tested (starts f (part st p n) (drop at line)) (at + n))
  lands_text f p n at g t =
      lands_test (starts f (part st p n) (drop at line)) (at + n)
      (λ e.
      let r = starts_good f (part st p n) (drop at line) g.0 e in
      let k : length (part st p n) ≡ n = simp (length-take, length-drop) (omega (arith, g.1)) in
      let m : length (drop at line) ≡ length line - at = length-drop at line in
      edge_more line at t n (omega (arith, r.1, t.inside)) (rw k at r.0))

  lands_one : (f : ℕ → Bool) (x : Option (ℕ × ℕ)) (at : ℕ) → char_of (drop at line) ≡ x → Edge line at → Lands (tested_one f x at)
  lands_one f (Some (c, n)) at e t = lands_test (f c) (at + n) (λ h. edge_char line at t c n e)
  lands_one f None at e t = tt

  lands : {d : ℕ} {t : Task} {at : ℕ} {v : Verdict} {n : ℕ} → Runs prog st line d t at v n → FineTask t → Edge line at → Lands v
  lands (visited {i = i} r) g t = lands r (fine i) t
  lands (text {f = f} {p = p} {n = n} {at = at}) g t = lands_text f p n at g t
  lands (range {a = a} {b = b} {at = at}) g t = lands_one (within a b) (char_of (drop at line)) at refl t
  lands (any {at = at}) g t = lands_one any_character (char_of (drop at line)) at refl t
  lands (call r) g t = lands r tt t
  lands (pos r) g t = t
  lands (pos_not r) g t = tt
  lands (neg r) g t = tt
  lands (neg_not r) g t = t
  lands (seq r s) g t = lands s tt (lands r tt t)
  lands (seq_not r) g t = tt
  lands (choice r) g t = lands r tt t
  lands (choice_not r s) g t = lands s tt t
  lands (repeated r) g t = lands r tt t
  lands unfit g t = tt
  lands (filled f) g t = t
  lands (again f r s) g t = lands s tt (lands r tt t)
  lands (ended {lo = lo} {k = k} {at = at} f r) g t = lands_test (leb lo k) at (λ h. t)

-- a matched length is at most the line's, and what stands before it and behind it is UTF-8
pub whole : (ns rs st : List ℕ) (start : ℕ) (line : List ℕ) (a e n : ℕ) → ready_of ns rs st start ≡ Ok tt → first_bad line ≡ None → match_of ns rs st start line a ≡ Matched e n
    → (e ≤ length line) × (first_bad (take e line) ≡ None) × (first_bad (drop e line) ≡ None)
whole ns rs st start line a e n y u q =
    let w = ready_allows ns rs st start (sym y) refl in
    let r = counted ns rs st start line y u a (up_to e) n q in
    let t = lands (program ns rs st) st line (fine_program ns rs st w.valid) r.0 tt (edge_first line u) in
    (t.inside, t.front, t.back)
