-- A reading that succeeded: the text is one of tokens, the grammar gave rules, no value was at fault, the counts are those of the rules, and they fit the room.
use Rattle.std.specs.Prelude.{ℕ, Option, Some, None, Result, Ok}
use Prim.Native.Nat.{ℕ, ◌≤◌}
use mathlib.Core.Path.{◌≡◌, refl, ap}
use mathlib.Core.List.{List}
use native.Mathlib.Omega.{arith}
use lib.Dec.{leb}
use lib.ListN.{length}
use borrow.Author.Tests.{leb-true}
use Rattle.text.specs.Utf8.{first_bad}
use Rattle.text.proofs.Booleans.{split}
use Rattle.text.specs.Limits.{max_text}
use Rattle.token.specs.Lists.{tokens_of}
use Rattle.table.specs.Tree.{Span, Rule, counts, rules_stored}
use Rattle.structure.specs.declared.Edition.{Edition}
use Rattle.structure.specs.declared.Level.{Level}
use Rattle.structure.specs.declared.Why.{Why}
use Rattle.structure.specs.declared.Why.TheVariants.{NotUtf8, NoToken}
use Rattle.structure.specs.Values.{faults}
use Rattle.structure.specs.Structure.{Ruled, rules, unruled, grammar}
use Rattle.build.specs.Rules.{ruled_of, rules_read}
use Rattle.structure.specs.declared.Refusal.{Refusal}
use Rattle.reader.specs.Read.{room_by, faulty, checked_by, refused_by, ruled_by, judged_of, listed_of, read_of}

pub record Counts (edition : Edition) (level : Level) (s : List ℕ) (n r b x y z : ℕ) : Type 0 where
  pub read : grammar level s ≡ rules (rules_read level s)
  pub sound : faults edition level s ≡ None
  pub nodes_are : x ≡ counts (rules_read level s)
  pub rules_are : y ≡ length (rules_read level s)
  pub store_is : z ≡ length (rules_stored (rules_read level s))
  pub nodes_fit : counts (rules_read level s) ≤ n
  pub rules_fit : length (rules_read level s) ≤ r
  pub store_fits : length (rules_stored (rules_read level s)) ≤ b

-- a text of legal length, of UTF-8, and of tokens up to its end
pub record Text (s : List ℕ) : Type 0 where
  pub short : length s ≤ max_text
  pub utf8 : first_bad s ≡ None
  pub lexed : (tokens_of s).fault ≡ None

module _ {x y z : ℕ} where
  room_read : (k c w n r b : ℕ) → room_by k c w n r b ≡ Ok (x, y, z) → ((x ≡ c) × (c ≤ n)) × ((y ≡ k) × (k ≤ r)) × ((z ≡ w) × (w ≤ b))
  unfolding room_by
  room_read k c w n r b =
      split (leb k r) _ _
      (λ e. split (leb c n) _ _
      (λ f. split (leb w b) _ _
      (λ g q.
      let h : ◌≡◌ {A = ℕ × ℕ × ℕ} (x, y, z) (c, k, w) = cc in
      ((ap (λ (t : ℕ × ℕ × ℕ). t.0) h, leb-true c n f), (ap (λ (t : ℕ × ℕ × ℕ). t.1) h, leb-true k r e), (ap (λ (t : ℕ × ℕ × ℕ). t.2) h, leb-true w b g)))
      (λ g q. let z : ◌≡◌ {A = ℕ} 0 1 = cc in absurd (omega arith)))
      (λ f q. let z : ◌≡◌ {A = ℕ} 0 1 = cc in absurd (omega arith)))
      (λ e q. let z : ◌≡◌ {A = ℕ} 0 1 = cc in absurd (omega arith))

  faulty_read : (f : Option Refusal) (g : Unit {0} → Result (ℕ × ℕ × ℕ) Refusal) → faulty f g ≡ Ok (x, y, z) → (f ≡ None) × (g tt ≡ Ok (x, y, z))
  faulty_read None g e = (refl, e)
  faulty_read (Some r) g e = let z : ◌≡◌ {A = ℕ} 0 1 = cc in absurd (omega arith)

  ruled_read : (m : Ruled) (f : List (Rule Span) → Result (ℕ × ℕ × ℕ) Refusal) → ruled_by m f ≡ Ok (x, y, z) → (m ≡ rules (ruled_of m)) × (f (ruled_of m) ≡ Ok (x, y, z))
  ruled_read (rules us) f e = (refl, e)
  ruled_read (unruled r) f e = let z : ◌≡◌ {A = ℕ} 0 1 = cc in absurd (omega arith)

  checked_read : (w : Why) (c : Option ℕ) (g : Unit {0} → Result (ℕ × ℕ × ℕ) Refusal) → checked_by c (refused_by w) g ≡ Ok (x, y, z) → (c ≡ None) × (g tt ≡ Ok (x, y, z))
  checked_read w (Some p) g e = let z : ◌≡◌ {A = ℕ} 0 1 = cc in absurd (omega arith)
  checked_read w None g e = (refl, e)

  module _ (edition : Edition) (level : Level) (s : List ℕ) (n r b : ℕ) where
    pub judged_counts : judged_of edition level s n r b ≡ Ok (x, y, z) → Counts edition level s n r b x y z
    unfolding judged_of
    judged_counts e =
        let (m, e₁) = ruled_read (grammar level s) _ e in
        let (f, e₂) = faulty_read (faults edition level s) _ e₁ in
        let ((p, h), (q, i), (o, j)) = room_read (length (rules_read level s)) (counts (rules_read level s)) (length (rules_stored (rules_read level s))) n r b e₂ in
        record { read = m; sound = f; nodes_are = p; rules_are = q; store_is = o; nodes_fit = h; rules_fit = i; store_fits = j }

    read_through : read_of edition level s n r b ≡ Ok (x, y, z) → Text s × (judged_of edition level s n r b ≡ Ok (x, y, z))
    unfolding read_of listed_of
    read_through =
        split (leb (length s) max_text) _ _
        (λ h q.
        let (u, e₁) = checked_read NotUtf8 (first_bad s) _ q in
        let (t, e₂) = checked_read NoToken (tokens_of s).fault _ e₁ in
        (record { short = leb-true (length s) max_text h; utf8 = u; lexed = t }, e₂))
        (λ h q. let z : ◌≡◌ {A = ℕ} 0 1 = cc in absurd (omega arith))

    pub read_text : read_of edition level s n r b ≡ Ok (x, y, z) → Text s
    read_text e = (read_through e).0

    pub read_counts : read_of edition level s n r b ≡ Ok (x, y, z) → Counts edition level s n r b x y z
    read_counts e = judged_counts (read_through e).1
