-- An expression is read exactly as `Expression` says. The invariant of a chain: what is still read from an index on is terms behind `~`
-- that go on with the last sequence, and then sequences behind `|`.
use Rattle.std.specs.Prelude.{Option, Some, None}
use Prim.Native.Nat.{ℕ, zero, suc, ◌+◌, ◌-◌, ◌<◌}
use mathlib.Core.Path.{◌≡◌, refl, sym, ap, ◌∙◌}
use mathlib.Core.Bool.{true, false}
use mathlib.Core.List.{List, [], ◌∷◌, foldl}
use native.Mathlib.Omega.{arith}
use lib.ListN.{length}
use borrow.Author.Tests.{eqb-true}
use Rattle.text.proofs.Booleans.{choose_true, choose_false, split}
use Rattle.token.specs.Table.{toks, kind, is}
use Rattle.table.specs.Tree.{Span, Tree}
use Rattle.table.specs.declared.Join.TheVariants.{Seq, Choice}
use Rattle.structure.specs.declared.Level.{Level}
use Rattle.structure.specs.Structure.{got, join, closed, expr, term, chain, Run}
use Rattle.structure.specs.Meaning.{Behind, nothing, more, Term, Sequence, Expression}
use Rattle.structure.proofs.Steps.{inside_is, another, next_got, next_good}
use Rattle.structure.proofs.Fuel.{went}
use Rattle.structure.proofs.Grammar.{expr_law, chain_law}

module _ (level : Level) (s : List ℕ) (o : ℕ) where
  -- terms behind `~`, and sequences behind `|`
  abbrev Terms : ℕ → List (Tree Span) → ℕ → Type 0
  Terms = Behind s 10 (Term level s o)

  abbrev Choices : ℕ → List (Tree Span) → ℕ → Type 0
  Choices = Behind s 11 (Sequence level s o)

  -- a first term and those behind it
  sequence : {at i n : ℕ} {u : Tree Span} {us : List (Tree Span)} → Term level s o at u i → Terms i us n → Sequence level s o at (foldl (join Seq) u us) n
  sequence {i = i} {u = u} {us = us} e b = record { first = u; past = i; others = us; leading = e; following = b; grouped = refl }

  -- what a chain reads from an index on, after the choices c and the sequence l
  record Rest (c : Option (Tree Span)) (l : Tree Span) (at : ℕ) (t : Tree Span) (n : ℕ) : Type 0 where
    terms : List (Tree Span)
    middle : ℕ
    choices : List (Tree Span)
    on : Terms at terms middle
    behind : Choices middle choices n
    tree : t ≡ foldl (join Choice) (closed c (foldl (join Seq) l terms)) choices
    no_seq : is s n 10 ≡ false
    no_choice : is s n 11 ≡ false

  -- what was read is that, by the tokens left
  chain-rest : (k : ℕ) (c : Option (Tree Span)) (l : Tree Span) (at : ℕ) (t : Tree Span) (n : ℕ) → length (toks s) - at < k → Run level s (chain o c l at) ≡ got t n → Rest c l at t n
  unfolding closed
  chain-rest zero c l at t n h e = absurd (omega arith)
  chain-rest (suc k) c l at t n h e =
      split (is s at 10) _ _
      (λ v e₀.
      let m = inside_is s at 10 (omega arith) v in
      let (u, i, e₁, e₂) = next_got _ _ e₀ in
      let p = went level s (term o (at + 1)) u i e₁ in
      let r = chain-rest k c (join Seq l u) i t n (omega arith) e₂ in
      record {
        terms = u ∷ r.terms;
        middle = r.middle;
        choices = r.choices;
        on = more v e₁ r.on;
        behind = r.behind;
        tree = r.tree;
        no_seq = r.no_seq;
        no_choice = r.no_choice;
      })
      (λ v. split (is s at 11) _ _
      (λ w e₀.
      let m = inside_is s at 11 (omega arith) w in
      let (u, i, e₁, e₂) = next_got _ _ e₀ in
      let p = went level s (term o (at + 1)) u i e₁ in
      let r = chain-rest k (Some (closed c l)) u i t n (omega arith) e₂ in
      record {
        terms = [];
        middle = at;
        choices = foldl (join Seq) u r.terms ∷ r.choices;
        on = nothing;
        behind = more w (sequence e₁ r.on) r.behind;
        tree = r.tree;
        no_seq = r.no_seq;
        no_choice = r.no_choice;
      })
      (λ w e₀.
      let z : at ≡ n = cc in
      let y : closed c l ≡ t = cc in
      record {
        terms = [];
        middle = at;
        choices = [];
        on = nothing;
        behind = rw (sym z) nothing;
        tree = sym y;
        no_seq = rw z at v;
        no_choice = rw z at w;
      })) (sym (chain_law level s o c l at) ∙ e)

  -- the first term and the rest of the chain
  whole : {at i n : ℕ} {u t : Tree Span} → Term level s o at u i → Rest None u i t n → Expression level s o at t n
  unfolding closed
  whole {u = u} e r = record {
    sequences = record {
      first = foldl (join Seq) u r.terms;
      past = r.middle;
      others = r.choices;
      leading = sequence e r.on;
      following = r.behind;
      grouped = r.tree;
    };
    no_seq = r.no_seq;
    no_choice = r.no_choice;
  }

  -- what is read as an expression is one
  pub expression : (at : ℕ) (t : Tree Span) (n : ℕ) → Run level s (expr o at) ≡ got t n → Expression level s o at t n
  expression at t n e =
      let (u, i, e₁, e₂) = next_got _ _ (sym (expr_law level s o at) ∙ e) in
      whole e₁ (chain-rest (suc (length (toks s))) None u i t n (omega arith) e₂)

  -- terms behind `~` go on with the last sequence
  terms-run : (c : Option (Tree Span)) (l : Tree Span) {at m : ℕ} {us : List (Tree Span)} → Terms at us m → Run level s (chain o c l at) ≡ Run level s (chain o c (foldl (join Seq) l us) m)
  terms-run c l nothing = refl
  terms-run c l (more {i = i} {t = u} v e b) = chain_law level s o c l i ∙ choose_true (is s i 10) _ _ v ∙ next_good _ _ e ∙ terms-run c (join Seq l u) b

  -- `|` is no `~`
  no-seq : (i : ℕ) → is s i 11 ≡ true → is s i 10 ≡ false
  unfolding is
  no-seq i w = another s i (kind s i) 11 10 refl (eqb-true (kind s i) 11 w) (λ h. omega arith)

  -- and sequences behind `|` with the choices
  choices-run : (c : Option (Tree Span)) (l : Tree Span) {m n : ℕ} {us : List (Tree Span)} → Choices m us n → is s n 10 ≡ false → is s n 11 ≡ false
      → Run level s (chain o c l m) ≡ got (foldl (join Choice) (closed c l) us) n
  unfolding closed
  choices-run c l {m = m} nothing x y = chain_law level s o c l m ∙ choose_false (is s m 10) _ _ x ∙ choose_false (is s m 11) _ _ y
  choices-run c l (more {i = i} {j = j} {t = u} w q b) x y =
      chain_law level s o c l i ∙ choose_false (is s i 10) _ _ (no-seq i w) ∙ choose_true (is s i 11) _ _ w ∙ next_good _ _ q.leading
      ∙ terms-run (Some (closed c l)) q.first q.following ∙ ap (λ (z : Tree Span). Run level s (chain o (Some (closed c l)) z j)) (sym q.grouped)
      ∙ choices-run (Some (closed c l)) u b x y

  -- what is an expression is read as it
  pub expression_if : (at : ℕ) (t : Tree Span) (n : ℕ) → Expression level s o at t n → Run level s (expr o at) ≡ got t n
  unfolding closed
  expression_if at t n x =
      let q = x.sequences in
      let a = q.leading in
      expr_law level s o at ∙ next_good _ _ a.leading ∙ terms-run None a.first a.following
      ∙ ap (λ (z : Tree Span). Run level s (chain o None z q.past)) (sym a.grouped)
      ∙ choices-run None q.first q.following x.no_seq x.no_choice ∙ ap (λ (z : Tree Span). got z n) (sym q.grouped)
