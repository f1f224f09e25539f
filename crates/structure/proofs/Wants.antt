-- What the functions that look for a token answer; what a reading, a postfix or a rule comes to; and that past a token less is unread.
use Rattle.std.specs.Prelude.{ℕ, Option, Some, None, Result, Ok, Err}
use Prim.Native.Nat.{ℕ, zero, suc, ◌+◌, ◌≤◌, ◌<◌}
use mathlib.Core.Path.{◌≡◌, refl, sym, ap, ◌∙◌}
use mathlib.Core.Bool.{Bool, true, false}
use mathlib.Core.List.{List, [], ◌∷◌}
use native.Mathlib.Omega.{arith}
use native.Mathlib.Decide.{dec_lt}
use lib.ListN.{length}
use Rattle.text.specs.Booleans.{choose}
use Rattle.text.proofs.Booleans.{choose_false, choose_true}
use Rattle.token.specs.Lists.{Tok, tok, place_from}
use Rattle.token.specs.Table.{toks, kind, start, is}
use Rattle.token.proofs.Lists.{Ordered, ordered}
use Rattle.table.specs.Tree.{Span, Tree, count, size}
use Rattle.table.specs.declared.Unary.{Unary}
use Rattle.structure.specs.declared.Refusal.{Refusal}
use Rattle.structure.specs.declared.Why.TheVariants.{NotAllowed}
use Rattle.structure.specs.Refusals.{because}
use Rattle.structure.specs.declared.Piece.{Piece}
use Rattle.structure.specs.declared.Posts.{Posts}
use Rattle.structure.specs.declared.Counts.{Counts}
use Rattle.structure.specs.Structure.{Parsed, got, refused, want, Postfix, post, not_post, no_post}
use Rattle.structure.specs.Answers.{unread, summary, wanted, tail_of}
use Rattle.structure.proofs.Steps.{inside_is, sees, misses, want_true, want_false}

-- ---- what an answer holds, by its numbers

abbrev pub piece : ℕ → ℕ → ℕ → Piece
piece n k b = record { next = n; nodes = k; bytes = b }

abbrev pub all_posts : ℕ → ℕ → Posts
all_posts n k = record { next = n; nodes = k }

abbrev pub rule_counts : ℕ → ℕ → ℕ → Counts
rule_counts r k b = record { rules = r; nodes = k; bytes = b }

-- ---- a token that is wanted

pub want_here : (s : List ℕ) (i k x : ℕ) → x ≡ kind s i → x ≡ k → Some (i + 1) ≡ wanted s i k
unfolding wanted
want_here s i k x e q = sym (choose_true (is s i k) _ _ (sees s i x k e q))

pub want_missing : (s : List ℕ) (i k x : ℕ) → x ≡ kind s i → (x ≡ k → ⊥) → None ≡ wanted s i k
unfolding wanted
want_missing s i k x e q = sym (choose_false (is s i k) _ _ (misses s i x k e q))

here_by : (b : Bool) (n p : ℕ) → choose b (λ u. Some n) (λ u. None) ≡ Some p → (b ≡ true) × (p ≡ n)
here_by true n p e = (refl, cc)
here_by false n p e = let z : ◌≡◌ {A = ℕ} 0 1 = cc in absurd (omega arith)

missing_by : (b : Bool) (n : ℕ) → choose b (λ u. Some n) (λ u. None) ≡ None → b ≡ false
missing_by false n e = refl
missing_by true n e = let z : ◌≡◌ {A = ℕ} 0 1 = cc in absurd (omega arith)

pub was_here : (s : List ℕ) (i k : ℕ) (r : Option ℕ) (p : ℕ) → r ≡ wanted s i k → r ≡ Some p → (is s i k ≡ true) × (p ≡ i + 1)
unfolding wanted
was_here s i k r p e q = here_by (is s i k) (i + 1) p (sym e ∙ q)

pub was_missing : (s : List ℕ) (i k : ℕ) (r : Option ℕ) → r ≡ wanted s i k → r ≡ None → is s i k ≡ false
unfolding wanted
was_missing s i k r e q = missing_by (is s i k) (i + 1) (sym e ∙ q)

-- where it stands, there is a token
pub here_in : (s : List ℕ) (i k : ℕ) (r : Option ℕ) (p : ℕ) → 0 < k → r ≡ wanted s i k → r ≡ Some p → (p ≡ i + 1) × (i < length (toks s))
here_in s i k r p h e q = let w = was_here s i k r p e q in (w.1, inside_is s i k h w.0)

-- and the grammar goes on after it
pub wanted_on : {A : Type 0} (fail : Refusal → A) (s : List ℕ) (i k : ℕ) (f : ℕ → A) (r : Option ℕ) (p : ℕ) → r ≡ wanted s i k → r ≡ Some p → want fail s i k f ≡ f p
wanted_on fail s i k f r p e q = let w = was_here s i k r p e q in want_true fail s i k f w.0 ∙ ap f (sym w.1)

-- where it doesn't, that is 4
pub wanted_off : {A : Type 0} (fail : Refusal → A) (s : List ℕ) (i k : ℕ) (f : ℕ → A) (r : Option ℕ) (y : Refusal) → r ≡ wanted s i k → r ≡ None → y ≡ because NotAllowed (start s i) → want fail s i k f ≡ fail y
wanted_off fail s i k f r y e q z = want_false fail s i k f (was_missing s i k r e q) ∙ ap fail (sym z)

-- ---- postfixes

pub tail_past : {p : Postfix} {v : Unary} {n m : ℕ} → p ≡ post v n → m ≡ n → Ok (Some m) ≡ tail_of p
unfolding tail_of
tail_past e f = ap (λ (i : ℕ). Ok (Some i)) f ∙ sym (ap tail_of e)

pub tail_bad : {p : Postfix} {r : Refusal} → p ≡ not_post r → Err r ≡ tail_of p
unfolding tail_of
tail_bad e = sym (ap tail_of e)

pub tail_ended : {p : Postfix} → p ≡ no_post → Ok None ≡ tail_of p
unfolding tail_of
tail_ended e = sym (ap tail_of e)

pub was_past : (p : Postfix) (r : Result (Option ℕ) Refusal) (n : ℕ) → r ≡ tail_of p → r ≡ Ok (Some n) → (v : Unary) × (p ≡ post v n)
unfolding tail_of
was_past (post v m) r n e q = let z : m ≡ n = cc in (v, ap (post v) z)
was_past (not_post x) r n e q = let z : ◌≡◌ {A = ℕ} 0 1 = cc in absurd (omega arith)
was_past no_post r n e q = let z : ◌≡◌ {A = ℕ} 0 1 = cc in absurd (omega arith)

pub was_bad : (p : Postfix) (r : Result (Option ℕ) Refusal) (x : Refusal) → r ≡ tail_of p → r ≡ Err x → p ≡ not_post x
unfolding tail_of
was_bad (post v m) r x e q = let z : ◌≡◌ {A = ℕ} 0 1 = cc in absurd (omega arith)
was_bad (not_post y) r x e q = cc
was_bad no_post r x e q = let z : ◌≡◌ {A = ℕ} 0 1 = cc in absurd (omega arith)

pub was_ended : (p : Postfix) (r : Result (Option ℕ) Refusal) → r ≡ tail_of p → r ≡ Ok None → p ≡ no_post
unfolding tail_of
was_ended (post v m) r e q = let z : ◌≡◌ {A = ℕ} 0 1 = cc in absurd (omega arith)
was_ended (not_post y) r e q = let z : ◌≡◌ {A = ℕ} 0 1 = cc in absurd (omega arith)
was_ended no_post r e q = refl

-- ---- readings

pub good : (m : Parsed) (r : Result Piece Refusal) (n k b : ℕ) → r ≡ summary m → r ≡ Ok (piece n k b) → (t : Tree Span) × (m ≡ got t n) × (count t ≡ k) × (size t ≡ b)
unfolding summary
good (got t i) r n k b e q =
    let h : ◌≡◌ {A = Piece} (piece i (count t) (size t)) (piece n k b) = cc in
    (t, ap (λ (z : Piece). got t z.next) h, ap (λ (z : Piece). z.nodes) h, ap (λ (z : Piece). z.bytes) h)
good (refused x) r n k b e q = let z : ◌≡◌ {A = ℕ} 0 1 = cc in absurd (omega arith)

pub bad : (m : Parsed) (r : Result Piece Refusal) (x : Refusal) → r ≡ summary m → r ≡ Err x → m ≡ refused x
unfolding summary
bad (refused y) r x e q = cc
bad (got t i) r x e q = let z : ◌≡◌ {A = ℕ} 0 1 = cc in absurd (omega arith)

pub sum_refused : {m : Parsed} {x : Refusal} → m ≡ refused x → Err x ≡ summary m
unfolding summary
sum_refused e = sym (ap summary e)

pub sum_got : {m : Parsed} {t : Tree Span} {n : ℕ} (i k b : ℕ) → m ≡ got t n → i ≡ n → k ≡ count t → b ≡ size t → Ok (piece i k b) ≡ summary m
unfolding summary
sum_got {t = t} {n = n} i k b e p q w = ap (λ (x : ℕ). Ok (piece x k b)) p ∙ ap (λ (x : ℕ). Ok (piece n x b)) q ∙ ap (λ (x : ℕ). Ok (piece n (count t) x)) w ∙ sym (ap summary e)

-- ---- what is unread falls

rise : (size from : ℕ) (ts : List Tok) (n : ℕ) → from ≤ size → Ordered size from ts → (from ≤ place_from from ts n) × (place_from from ts n ≤ size)
rise size from ts zero h o = (omega arith, h)
rise size from [] (suc n) h o = (omega arith, h)
rise size from (tok k a b ∷ ts) (suc n) h o =
    let p = rise size b ts n o.4 o.5 in
    let q = o.2 in
    let r = o.3 in
    (omega arith, p.1)

up : (size from : ℕ) (ts : List Tok) (i n : ℕ) → from ≤ size → Ordered size from ts → i < n → n ≤ length ts → place_from from ts i < place_from from ts n
up size from [] i n h o l m = absurd (omega arith)
up size from (tok k a b ∷ ts) i zero h o l m = absurd (omega arith)
up size from (tok k a b ∷ ts) zero (suc n) h o l m =
    let p = rise size b ts n o.4 o.5 in
    let q = o.2 in
    let r = o.3 in
    omega arith
up size from (tok k a b ∷ ts) (suc i) (suc n) h o l m = up size b ts i n o.4 o.5 (omega arith) (omega arith)

-- after more tokens, fewer bytes are unread
pub fewer : (s : List ℕ) (i n : ℕ) → i < n → n ≤ length (toks s) → unread s n < unread s i
unfolding unread
fewer s i n l m =
    let p = up (length s) 0 (toks s) i n (omega arith) (ordered s) l m in
    let q = rise (length s) 0 (toks s) n (omega arith) (ordered s) in
    omega arith

-- over a loop that may take nothing
pub sinks : (s : List ℕ) (i n : ℕ) → i ≤ n → ((i ≡ n → ⊥) → n ≤ length (toks s)) → unread s n ≤ unread s i
sinks s i n h w = go (dec_lt i n)
  where
    go : Dec (i < n) → unread s n ≤ unread s i
    go (yes l) = let f = fewer s i n l (w (λ z. omega arith)) in omega arith
    go (no l) = let z : i ≡ n = omega arith in let y = ap (unread s) z in omega arith
