-- The steps of the grammar, taken apart: a choice, a token that is wanted, and what goes on after it.
use Prim.Native.Nat.{ℕ, ◌+◌, ◌<◌}
use mathlib.Core.Path.{◌≡◌, refl, sym, ap, ◌∙◌}
use mathlib.Core.Bool.{Bool, true, false}
use mathlib.Core.List.{List, [], ◌∷◌, ◌++◌}
use native.Mathlib.Omega.{arith}
use native.Mathlib.Decide.{dec_lt}
use lib.Dec.{leb, eqb}
use lib.ListN.{length, get_or-eq_default}
use borrow.Author.Tests.{eqb-true, eq-eqb, ne_eqb}
use Rattle.text.specs.Booleans.{and}
use Rattle.text.proofs.Booleans.{and_first, and_left, choose_cong, choose_false, choose_true, split}
use Rattle.text.specs.Limits.{max_open}
use Rattle.text.specs.Words.{begins}
use Rattle.token.specs.Lists.{tok, kind_of}
use Rattle.token.specs.Table.{toks, tok_of, kind, start, is, word}
use Rattle.table.specs.Tree.{Span, Tree}
use Rattle.table.specs.declared.Unary.{Unary}
use Rattle.structure.specs.declared.Refusal.{Refusal}
use Rattle.structure.specs.declared.Why.TheVariants.{NotAllowed, TooDeep}
use Rattle.structure.specs.Refusals.{because}
use Rattle.structure.specs.Tokens.{same, spells}
use Rattle.structure.specs.Structure.{Parsed, got, refused, next, want, opened, Postfix, post, not_post, no_post, posts_by}

-- ---- a token of a kind

pub has_token : (s : List ℕ) (i : ℕ) → (kind s i ≡ 0 → ⊥) → i < length (toks s)
unfolding kind tok_of
has_token s i h = go (dec_lt i (length (toks s)))
  where
    go : Dec (i < length (toks s)) → i < length (toks s)
    go (yes l) = l
    go (no l) = absurd (h (ap kind_of (get_or-eq_default (toks s) (tok 0 (length s) (length s)) (omega arith))))

-- a token of a kind is no end of the text
pub inside_is : (s : List ℕ) (i k : ℕ) → 0 < k → is s i k ≡ true → i < length (toks s)
unfolding is
inside_is s i k p e = has_token s i (λ z. let q : kind s i ≡ k = eqb-true (kind s i) k e in omega arith)

pub is_kind : (s : List ℕ) (i k : ℕ) → is s i k ≡ true → kind s i ≡ k
unfolding is
is_kind s i k e = eqb-true (kind s i) k e

pub sees : (s : List ℕ) (i x k : ℕ) → x ≡ kind s i → x ≡ k → is s i k ≡ true
unfolding is
sees s i x k e q = eq-eqb (kind s i) k (sym e ∙ q)

pub misses : (s : List ℕ) (i x k : ℕ) → x ≡ kind s i → (x ≡ k → ⊥) → is s i k ≡ false
unfolding is
misses s i x k e q = ne_eqb (kind s i) k (λ h. q (e ∙ h))

-- a token of one kind is of no other
pub another : (s : List ℕ) (i x j k : ℕ) → x ≡ kind s i → x ≡ j → (j ≡ k → ⊥) → is s i k ≡ false
another s i x j k e q n = misses s i x k e (λ h. n (sym q ∙ h))

-- a word that is spelled somehow is a word
pub spelled_word : (p s : List ℕ) (i : ℕ) → spells p s i ≡ true → is s i 18 ≡ true
unfolding spells
spelled_word p s i e = and_left (is s i 18) (same p (word s i)) e

pub spells_in : (p s : List ℕ) (i : ℕ) → spells p s i ≡ true → i < length (toks s)
spells_in p s i e = inside_is s i 18 (omega arith) (spelled_word p s i e)

pub spells_kind : (p s : List ℕ) (i : ℕ) → is s i 18 ≡ false → spells p s i ≡ false
unfolding spells
spells_kind p s i e = and_first (is s i 18) (same p (word s i)) e

-- what doesn't begin so doesn't begin with more
pub begins_more : (p q xs : List ℕ) → begins p xs ≡ false → begins (p ++ q) xs ≡ false
unfolding begins
begins_more [] q xs e = let z : ◌≡◌ {A = ℕ} 0 1 = cc in absurd (omega arith)
begins_more (p ∷ ps) q [] e = refl
begins_more (p ∷ ps) q (x ∷ xs) e = go (eqb x p) (λ f. begins_more ps q xs f) e
  where
    go : (b : Bool) → (begins ps xs ≡ false → begins (ps ++ q) xs ≡ false) → and b (begins ps xs) ≡ false → and b (begins (ps ++ q) xs) ≡ false
    go true g f = g f
    go false g f = refl

-- ---- a token that is wanted

pub want_true : {A : Type 0} (fail : Refusal → A) (s : List ℕ) (i k : ℕ) (f : ℕ → A) → is s i k ≡ true → want fail s i k f ≡ f (i + 1)
unfolding want
want_true fail s i k f e = choose_true (is s i k) _ _ e

pub want_false : {A : Type 0} (fail : Refusal → A) (s : List ℕ) (i k : ℕ) (f : ℕ → A) → is s i k ≡ false → want fail s i k f ≡ fail (because NotAllowed (start s i))
unfolding want
want_false fail s i k f e = choose_false (is s i k) _ _ e

pub want_cong : {A : Type 0} (fail : Refusal → A) (s : List ℕ) (i k : ℕ) (f g : ℕ → A) → 0 < k → (i < length (toks s) → f (i + 1) ≡ g (i + 1)) → want fail s i k f ≡ want fail s i k g
unfolding want
want_cong fail s i k f g p h = choose_cong (is s i k) _ _ _ _ (λ v. h (inside_is s i k p v)) (λ v. refl)

-- ---- what goes on

pub no_tree : {P : Type 0} {r : Refusal} {t : Tree Span} {n : ℕ} → refused r ≡ got t n → P
no_tree e = let z : ◌≡◌ {A = ℕ} 0 1 = cc in absurd (omega arith)

pub next_got : (m : Parsed) (f : Tree Span → ℕ → Parsed) {t : Tree Span} {n : ℕ} → next m f ≡ got t n
    → (u : Tree Span) × (i : ℕ) × (m ≡ got u i) × (f u i ≡ got t n)
unfolding next
next_got (got u i) f e = (u, i, refl, e)
next_got (refused r) f e = no_tree e

pub next_good : (m : Parsed) (f : Tree Span → ℕ → Parsed) {t : Tree Span} {n : ℕ} → m ≡ got t n → next m f ≡ f t n
unfolding next
next_good m f e = ap (λ (x : Parsed). next x f) e

pub next_bad : (m : Parsed) (f : Tree Span → ℕ → Parsed) {r : Refusal} → m ≡ refused r → next m f ≡ refused r
unfolding next
next_bad m f e = ap (λ (x : Parsed). next x f) e

pub next_cong : (m m' : Parsed) (f g : Tree Span → ℕ → Parsed) → m ≡ m' → ((t : Tree Span) (n : ℕ) → m ≡ got t n → f t n ≡ g t n) → next m f ≡ next m' g
unfolding next
next_cong (got t n) m' f g e h = h t n refl ∙ ap (λ (x : Parsed). next x g) e
next_cong (refused r) m' f g e h = ap (λ (x : Parsed). next x g) e

pub next_assoc : (m : Parsed) (f g : Tree Span → ℕ → Parsed) → next (next m f) g ≡ next m (λ t n. next (f t n) g)
unfolding next
next_assoc (got t n) f g = refl
next_assoc (refused r) f g = refl

pub next_fun : (m : Parsed) (f g : Tree Span → ℕ → Parsed) → ((t : Tree Span) (n : ℕ) → f t n ≡ g t n) → next m f ≡ next m g
unfolding next
next_fun (got t n) f g h = h t n
next_fun (refused r) f g h = refl

pub next_on : (t : Tree Span) (n : ℕ) (f : Tree Span → ℕ → Parsed) → next (got t n) f ≡ f t n
unfolding next
next_on t n f = refl

pub next_id : (m : Parsed) → next m (λ t n. got t n) ≡ m
unfolding next
next_id (got t n) = refl
next_id (refused r) = refl

-- what was wanted stands there, where something was read
pub want_got : (s : List ℕ) (i k : ℕ) (f : ℕ → Parsed) {t : Tree Span} {n : ℕ} → 0 < k → want refused s i k f ≡ got t n
    → (is s i k ≡ true) × (i < length (toks s)) × (f (i + 1) ≡ got t n)
unfolding want
want_got s i k f p e = split (is s i k) _ _ (λ v e₀. (v, inside_is s i k p v, e₀)) (λ v e₀. no_tree e₀) e

pub want_post : (s : List ℕ) (i k : ℕ) (f : ℕ → Postfix) {v : Unary} {n : ℕ} → 0 < k → want not_post s i k f ≡ post v n
    → (is s i k ≡ true) × (i < length (toks s)) × (f (i + 1) ≡ post v n)
unfolding want
want_post s i k f p e =
    split (is s i k) _ _ (λ v e₀. (v, inside_is s i k p v, e₀)) (λ v e₀. let z : ◌≡◌ {A = ℕ} 0 1 = cc in absurd (omega arith)) e

pub opened_got : (o : ℕ) (s : List ℕ) (i : ℕ) (f : Unit {0} → Parsed) {t : Tree Span} {n : ℕ} → opened o s i f ≡ got t n
    → (leb max_open o ≡ false) × (f tt ≡ got t n)
unfolding opened
opened_got o s i f e = split (leb max_open o) _ _ (λ v e₀. no_tree e₀) (λ v e₀. (v, e₀)) e

pub opened_true : (o : ℕ) (s : List ℕ) (i : ℕ) (f : Unit {0} → Parsed) → leb max_open o ≡ true → opened o s i f ≡ refused (because TooDeep (start s i))
unfolding opened
opened_true o s i f e = choose_true (leb max_open o) _ _ e

pub opened_false : (o : ℕ) (s : List ℕ) (i : ℕ) (f : Unit {0} → Parsed) → leb max_open o ≡ false → opened o s i f ≡ f tt
unfolding opened
opened_false o s i f e = choose_false (leb max_open o) _ _ e

pub opened_cong : (o : ℕ) (s : List ℕ) (i : ℕ) (f g : Unit {0} → Parsed) → f tt ≡ g tt → opened o s i f ≡ opened o s i g
unfolding opened
opened_cong o s i f g h = choose_cong (leb max_open o) _ _ _ _ (λ v. refl) (λ v. h)

pub posts_cong : (p : Postfix) (f g : Unary → ℕ → Parsed) (x : Unit {0} → Parsed) → ((v : Unary) (n : ℕ) → p ≡ post v n → f v n ≡ g v n) → posts_by p f x ≡ posts_by p g x
posts_cong (post v n) f g x h = h v n refl
posts_cong (not_post r) f g x h = refl
posts_cong no_post f g x h = refl

pub posts_by_lem : (p : Postfix) (f : Unary → ℕ → Parsed) (x : Unit {0} → Parsed) {t : Tree Span} {n : ℕ} {P : Type 0}
    → ((v : Unary) (m : ℕ) → p ≡ post v m → f v m ≡ got t n → P) → (p ≡ no_post → x tt ≡ got t n → P) → posts_by p f x ≡ got t n → P
posts_by_lem (post v m) f x g h e = g v m refl e
posts_by_lem (not_post r) f x g h e = no_tree e
posts_by_lem no_post f x g h e = h refl e
