-- How the table is filled: after n tokens it holds the rows of the first n at its front, and the tokens left are those from a place on.
use Rattle.std.specs.Prelude.{ℕ, Option, Some, None, Result, Ok, Err}
use Prim.Native.Nat.{ℕ, ◌+◌, ◌*◌, ◌-◌, ◌≤◌, ◌<◌}
use mathlib.Core.Path.{◌≡◌, refl, sym, ap, ◌∙◌}
use mathlib.Core.Logic.{⊎_elim}
use mathlib.Core.List.{List, [], ◌∷◌, ◌++◌, append_assoc, append-nil}
use native.Mathlib.Omega.{arith}
use lib.ListN.{length, take, drop, length-append}
use lib.Seq.{sets, length-sets, take_at, take_all}
use borrow.Author.Tests.{le-leb, lt-leb}
use Rattle.text.specs.Splice.{fronted}
use Rattle.text.proofs.Tests.{lt_or_ge}
use Rattle.text.specs.Limits.{max_text}
use Rattle.token.specs.Tokens.{token_at}
use Rattle.token.specs.Lists.{Tok, tok, Tokens, onto, tokens_by, tokens_from, tokens_of, filled_by, filled_of}
use Rattle.token.specs.Table.{token_size, row_of, flat, room_of, toks}
use Rattle.token.specs.declared.Token.{Token}
use Rattle.token.specs.declared.Token.TheVariants.{Found, End, NoToken}
use Rattle.token.specs.declared.FillError.{FillError}
use Rattle.token.proofs.Bounds.{token_in}
use Rattle.token.proofs.Lists.{tokens_law}
use Rattle.token.proofs.Table.{flat_length, behind, front_is, row_fits}

onto_onto : (xs ys : List Tok) (r : Tokens) → onto xs (onto ys r) ≡ onto (xs ++ ys) r
onto_onto xs ys r = ap (λ (l : List Tok). record { list = l; fault = r.fault }) (sym (append_assoc xs ys r.list))

-- the used part of a table
pub used : (ts : List Tok) (o o' : List ℕ) (n : ℕ) → o' ≡ fronted (flat ts) o → n ≡ length ts → take (n * token_size) o' ≡ flat ts
unfolding fronted
used ts o o' n e q = ap (take (n * token_size)) e ∙ take_at (flat ts) (drop (length (flat ts)) o) (n * token_size) (omega (arith, flat_length ts))

filled_by_lem : (r : Tokens) (n : ℕ) → filled_by (length r.list) r.fault ≡ Ok n → (n ≡ length r.list) × (r.fault ≡ None)
filled_by_lem r n e = by_fault r.fault e where
  by_fault : (f : Option ℕ) → filled_by (length r.list) f ≡ Ok n → (n ≡ length r.list) × (f ≡ None)
  by_fault None q = (cc, refl)
  by_fault (Some p) q = let z : ◌≡◌ {A = ℕ} 0 1 = cc in absurd (omega arith)

-- what fits and what doesn't
pub filled_fits : (m : ℕ) (s : List ℕ) → length (tokens_of s).list ≤ m → filled_of m s ≡ filled_by (length (tokens_of s).list) (tokens_of s).fault
unfolding filled_of
filled_fits m s h = rw (le-leb (length (tokens_of s).list) m h)

pub filled_full : (m : ℕ) (s : List ℕ) → m < length (tokens_of s).list → filled_of m s ≡ Err FillError.Full
unfolding filled_of
filled_full m s h = rw (lt-leb (length (tokens_of s).list) m h)

-- what is answered but for `Full` fits
fitted : (m : ℕ) (s : List ℕ) {f : Result ℕ FillError} → filled_of m s ≡ f → (Err FillError.Full ≡ f → ⊥) → length (tokens_of s).list ≤ m
fitted m s e d = ⊎_elim (λ h. absurd (d (sym (filled_full m s h) ∙ e))) (λ h. h) (lt_or_ge m (length (tokens_of s).list))

-- the table was filled: with all tokens, since none is missing
pub filled_all : (m : ℕ) (s : List ℕ) (n : ℕ) → filled_of m s ≡ Ok n → (length (tokens_of s).list ≤ m) × (n ≡ length (tokens_of s).list) × ((tokens_of s).fault ≡ None)
filled_all m s n e =
    let h = fitted m s e (λ q. let z : ◌≡◌ {A = ℕ} 0 1 = cc in omega arith) in
    let r = filled_by_lem (tokens_of s) n (sym (filled_fits m s h) ∙ e) in
    (h, r.0, r.1)

stopped_by : (n : ℕ) (f : Option ℕ) (p : ℕ) → filled_by n f ≡ Err (FillError.NoToken p) → f ≡ Some p
stopped_by n None p e = let z : ◌≡◌ {A = ℕ} 0 1 = cc in absurd (omega arith)
stopped_by n (Some q) p e =
    let z : q ≡ p = cc in
    ap Some z

-- or up to the text's first 3
pub filled_none : (m : ℕ) (s : List ℕ) (p : ℕ) → filled_of m s ≡ Err (FillError.NoToken p) → (length (tokens_of s).list ≤ m) × ((tokens_of s).fault ≡ Some p)
filled_none m s p e =
    let h = fitted m s e (λ q. let z : ◌≡◌ {A = ℕ} 0 1 = cc in omega arith) in
    (h, stopped_by (length (tokens_of s).list) (tokens_of s).fault p (sym (filled_fits m s h) ∙ e))

not_full : (n : ℕ) (f : Option ℕ) → filled_by n f ≡ Err FillError.Full → ⊥
not_full n None e = let z : ◌≡◌ {A = ℕ} 0 1 = cc in omega arith
not_full n (Some p) e = let z : ◌≡◌ {A = ℕ} 0 1 = cc in omega arith

-- or there are more
pub filled_over : (m : ℕ) (s : List ℕ) → filled_of m s ≡ Err FillError.Full → m < length (tokens_of s).list
filled_over m s e =
    ⊎_elim (λ h. h) (λ h. absurd (not_full (length (tokens_of s).list) (tokens_of s).fault (sym (filled_fits m s h) ∙ e))) (lt_or_ge m (length (tokens_of s).list))

-- the turns of `fill`: so many tokens are done, and are held
pub record Filling (s o₀ o : List ℕ) (at n : ℕ) : Type 0 where
  pub done : List Tok
  pub meaning : tokens_of s ≡ onto done (tokens_from s at)
  pub size : n ≡ length done
  pub room : n ≤ room_of o₀
  pub within : at ≤ length s
  pub held : o ≡ sets o₀ 0 (flat done)

-- what a turn that found a token needs
pub record Fits (s o : List ℕ) (at n k a b : ℕ) : Type 0 where
  pub row : n * token_size + token_size ≤ length o
  pub kind : k ≤ 27
  pub start : a ≤ max_text
  pub end : b ≤ max_text
  pub less : length s - b < length s - at

-- what is answered, and what the table holds then
abbrev pub Answered : List ℕ → List ℕ → List ℕ → Result ℕ FillError → Type 0
Answered s o₀ o r = (r ≡ filled_of (room_of o₀) s) × (o ≡ fronted (flat (take (room_of o₀) (toks s))) o₀)

pub fill_start : (s o₀ : List ℕ) → Filling s o₀ o₀ 0 0
unfolding tokens_of
fill_start s o₀ = record { done = []; meaning = refl; size = refl; room = omega arith; within = omega arith; held = refl }

module _ {s o₀ o : List ℕ} {at n : ℕ} (v : Filling s o₀ o at n) where
  pub fill_length : length o ≡ length o₀
  fill_length = ap length v.held ∙ length-sets o₀ 0 (flat v.done)

  -- what is done fits, and is held
  fits : length v.done ≤ room_of o₀
  fits =
      let q = v.size in
      let m = v.room in
      omega arith

  done_held : o ≡ fronted (flat v.done) o₀
  done_held = v.held ∙ front_is v.done o₀ fits

  module _ {r : Token} (e : r ≡ token_at s at) where
    now_is : tokens_of s ≡ onto v.done (tokens_by r (tokens_from s))
    now_is = v.meaning ∙ ap (onto v.done) (tokens_law s at ∙ ap (λ (x : Token). tokens_by x (tokens_from s)) (sym e))

    ends_with : (f : Option ℕ) → tokens_by r (tokens_from s) ≡ record { list = []; fault = f } → tokens_of s ≡ record { list = v.done; fault = f }
    ends_with f z = now_is ∙ ap (onto v.done) z ∙ ap (λ (l : List Tok). record { list = l; fault = f }) (append-nil v.done)

    -- all tokens are done: they fit
    all_held : (f : Option ℕ) → tokens_of s ≡ record { list = v.done; fault = f } → Answered s o₀ o (filled_by n f)
    all_held f z =
        let g : toks s ≡ v.done = ap (λ (x : Tokens). x.list) z in
        let l : length (toks s) ≤ room_of o₀ = omega (arith, ap length g, fits) in (
          sym (filled_fits (room_of o₀) s l ∙ rw (z, v.size)),
          done_held ∙ ap (λ (ts : List Tok). fronted (flat ts) o₀) (sym (take_all (room_of o₀) (toks s) l ∙ g)),
        )

    pub fill_end : r ≡ End → Answered s o₀ o (Ok n)
    fill_end q = all_held None (ends_with None (ap (λ (x : Token). tokens_by x (tokens_from s)) q))

    pub fill_none : {p : ℕ} → r ≡ NoToken p → Answered s o₀ o (Err (FillError.NoToken p))
    fill_none {p} q = all_held (Some p) (ends_with (Some p) (ap (λ (x : Token). tokens_by x (tokens_from s)) q))

    module _ {k a b : ℕ} (q : r ≡ Found k a b) where
      found_is : tokens_of s ≡ onto (v.done ++ (tok k a b ∷ [])) (tokens_from s b)
      found_is = now_is ∙ ap (λ (x : Token). onto v.done (tokens_by x (tokens_from s))) q ∙ onto_onto v.done (tok k a b ∷ []) (tokens_from s b)

      -- a token was found, and the table is full
      pub fill_full : room_of o₀ ≤ n → Answered s o₀ o (Err FillError.Full)
      fill_full h =
          let z : toks s ≡ v.done ++ (tok k a b ∷ (tokens_from s b).list) =
          ap (λ (x : Tokens). x.list) found_is ∙ append_assoc v.done (tok k a b ∷ []) (tokens_from s b).list in
          let l = length-append v.done (tok k a b ∷ (tokens_from s b).list) in
          let g = ap length z in
          let m = v.size in
          let w = v.room in
          let d : length v.done ≡ room_of o₀ = omega arith in
          (sym (filled_full (room_of o₀) s (omega arith)), rw (z, take_at v.done (tok k a b ∷ (tokens_from s b).list) (room_of o₀) d) (done_held))

      -- or it has room for it; and less is left of the text
      module _ (h : n < room_of o₀) where
        pub fill_room : length s ≤ max_text → Fits s o at n k a b
        fill_room w =
            let p = token_in s at k a b (sym e ∙ q) in
            let l = fill_length in
            let f = row_fits o₀ n h in
            record { row = omega arith; kind = omega arith; start = omega arith; end = omega arith; less = omega arith }

        pub fill_more : {o' : List ℕ} → o' ≡ sets o (n * token_size) (row_of (tok k a b)) → Filling s o₀ o' b (n + 1)
        fill_more g =
            let p = token_in s at k a b (sym e ∙ q) in
            record {
              done = v.done ++ (tok k a b ∷ []);
              meaning = found_is;
              size =
                  (let z = v.size in
                  let i = length-append v.done (tok k a b ∷ []) in
                  omega arith);
              room = omega arith;
              within = p.within;
              held = g ∙ rw (v.held, v.size) (behind v.done (tok k a b ∷ []) o₀);
            }
