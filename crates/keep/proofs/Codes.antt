-- Numbers that are none of the first n: where a match over codes has no arm.
use Prim.Native.Nat.{ℕ, zero, suc, ◌-◌, ◌≤◌}
use mathlib.Core.Path.{◌≡◌, refl}
use native.Mathlib.Omega.{arith}
use lib.ListN.{get_or, get_or-eq_default}
use Rattle.states.specs.Keep.{tails, states, utfs}
use Rattle.states.specs.declared.Tail.TheVariants.{T1}
use Rattle.states.specs.declared.State.TheVariants.{Refused}
use Rattle.states.specs.declared.Utf.TheVariants.{Mid, Broke}

pub tail_past : (c : ℕ) → 7 ≤ c → get_or tails c T1 ≡ T1
tail_past c h = get_or-eq_default tails T1 h

pub state_past : (c k b d : ℕ) → 29 ≤ c → get_or (states k b d) c Refused ≡ Refused
state_past c k b d h = get_or-eq_default (states k b d) Refused h

pub utf_past : (c s : ℕ) → 8 ≤ c → get_or (utfs s) c (Broke s) ≡ Broke s
utf_past c s h = get_or-eq_default (utfs s) (Broke s) h

-- a place inside a character is told by its tail
pub utf_mid : (c s : ℕ) → 1 ≤ c → c ≤ 7 → get_or (utfs s) c (Broke s) ≡ Mid (get_or tails (c - 1) T1) s
utf_mid zero s l h = absurd (omega arith)
utf_mid (suc zero) s l h = refl
utf_mid (suc (suc zero)) s l h = refl
utf_mid (suc (suc (suc zero))) s l h = refl
utf_mid (suc (suc (suc (suc zero)))) s l h = refl
utf_mid (suc (suc (suc (suc (suc zero))))) s l h = refl
utf_mid (suc (suc (suc (suc (suc (suc zero)))))) s l h = refl
utf_mid (suc (suc (suc (suc (suc (suc (suc zero))))))) s l h = refl
utf_mid (suc (suc (suc (suc (suc (suc (suc (suc c)))))))) s l h = absurd (omega arith)
