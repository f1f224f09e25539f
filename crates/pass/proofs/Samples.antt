-- Demand 3 of a pass says something: the tables with every kind of node pass in both styles and editions, and plain refuses their PUSH_LITERAL;
-- without it they pass at either level. A minimum above its maximum passes in the first edition alone. All of it is computed.
use Prim.Native.Nat.{ℕ}
use Prim.Native.String.{String}
use mathlib.Core.Path.{◌≡◌, refl}
use mathlib.Core.List.{List, [], ◌∷◌}
use Rattle.text.specs.Limits.{max_text, max_nodes, max_rules, max_store}
use Rattle.forms.specs.declared.Style.{Style}
use Rattle.forms.specs.declared.Style.TheVariants.{Full, Short}
use Rattle.structure.specs.declared.Edition.{Edition}
use Rattle.structure.specs.declared.Edition.TheVariants.{First, Second}
use Rattle.structure.specs.declared.Level.{Level}
use Rattle.structure.specs.declared.Level.TheVariants.{Tagged, Plain}
use Rattle.promises.specs.Witness.{every, unpushed, nodes_held, rules_held, store_held}
use Rattle.promises.proofs.Opened.{opened}
use Rattle.pass.specs.Pass.{pass_of, numbered}

-- the number of the answer for the tables of a text, given all room
abbrev answer : Style → Edition → Level → String → ℕ
answer style edition level s = (numbered (pass_of style edition level (nodes_held s) (rules_held s) (store_held s) max_text max_nodes max_rules max_store)).number

-- of both editions and both styles
abbrev four : Level → String → List ℕ
four level s = answer Full First level s ∷ answer Short First level s ∷ answer Full Second level s ∷ answer Short Second level s ∷ []

abbrev all : ℕ → List ℕ
all n = n ∷ n ∷ n ∷ n ∷ []

pub samples : four Tagged every ∷ four Plain every ∷ four Plain unpushed ∷ four Tagged "r={a{3,2}}" ∷ [] ≡ all 0 ∷ all 13 ∷ all 0 ∷ (0 ∷ 0 ∷ 15 ∷ 15 ∷ []) ∷ []
unfolding opened pass_of numbered
samples = refl
