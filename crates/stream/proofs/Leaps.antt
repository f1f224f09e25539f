-- From token to token through a packet: what is given on the way stands in the stash, and the rest is as if it was fed from there.
use Rattle.std.specs.Prelude.{ℕ, Option, None}
use Prim.Native.Nat.{ℕ, suc, ◌+◌, ◌-◌, ◌*◌, ◌/◌, ◌%◌, ◌≤◌, ◌<◌}
use mathlib.Core.Path.{◌≡◌, refl, sym, ap, ◌∙◌}
use mathlib.Core.Bool.{true}
use mathlib.Core.List.{List, [], ◌∷◌, ◌++◌}
use mathlib.Core.Logic.{◌⊎◌, inl, inr}
use native.Mathlib.Nat.{add-zero, div-mul-le_self, div-add-mod'}
use native.Mathlib.Numerals.{add-one}
use native.Mathlib.Omega.{arith}
use lib.Dec.{eqb}
use lib.ListN.{length, drop, take, get_or, length-append, length-drop, take-append-drop}
use borrow.Rule.Slice.PartMut.{put_mid}
use Rattle.std.proofs.Common.{append_assoc}
use lib.Seq.{sets, drop-append-le, length-sets, length-take-le, drop-cons, drop-drop, get_or-drop, sets-eq, take_at, take_all}
use borrow.Author.Tests.{eqb-true, lt-ltb}
use Rattle.text.specs.Utf8.{first_bad}
use Rattle.text.specs.Scans.{later}
use Rattle.token.specs.Tokens.{moved, token_of}
use Rattle.text.proofs.Booleans.{and_true}
use Rattle.text.specs.Limits.{max_text}
use Rattle.token.specs.Lists.{Tok, tok, Tokens}
use Rattle.token.specs.declared.Token.{Token}
use Rattle.token.specs.declared.Token.TheVariants.{Found, End, NoToken}
use Rattle.token.proofs.Bounds.{token_in}
use Rattle.token.proofs.Places.{token_is}
use Rattle.token.specs.Table.{flat, room_of}
use Rattle.token.proofs.Table.{flat_length}
use Rattle.states.specs.declared.State.{State}
use Rattle.states.specs.declared.State.TheVariants.{Start, Word, Push, Num, Hash, Tag, Dot, Caret, Minus, Zeros, Negative, Str, Esc, X0, X1, U, Un, Chr, More, Quote, Slash, Slash2, Line, Doc, DocCr, Cr, Com, Star, Bar, Refused}
use Rattle.states.specs.declared.Utf.{Utf}
use Rattle.states.specs.declared.Utf.TheVariants.{Whole, Mid, Broke}
use Rattle.states.specs.declared.Stand.{Stand}
use Rattle.states.specs.Utf.{utf_step, utf_end, utf_feed, broken_at}
use Rattle.states.specs.Keep.{code_of, utf_code, tail_code, waiting}
use Rattle.states.specs.Steps.{Step, Goes, Faults, over_at, step_of, given, followed, ran_of}
use Rattle.steps.specs.Shapes.{list_of}
use Rattle.stream.specs.Shapes.{gives_of, Coherent}
use Rattle.stream.specs.Quick.{start_at, is_between, Holds, Leapt}
use Rattle.states.proofs.From.{from, ended, from_law}
use Rattle.states.proofs.Left.{left}
use Rattle.states.proofs.Fits.{never}
use Rattle.states.proofs.Utfs.{machine_at, utf_cuts}
use Rattle.states.proofs.Cuts.{given_given, followed_given, ran_cut}
use Rattle.stream.proofs.Loops.{loop_starts}
use Rattle.stream.proofs.Writes.{has_room, put_more, at_move, step_room, step_sound}
use Rattle.stream.proofs.Sounds.{many_small}
use Rattle.stream.proofs.Quick.{ascii_next, still, Leaps, Closes, leaps}

-- ---- between tokens

code_start : (q : State) → eqb (code_of q) 0 ≡ true → q ≡ Start
code_start Start e = refl
code_start Word e = never e
code_start Push e = never e
code_start Num e = never e
code_start Hash e = never e
code_start Tag e = never e
code_start Dot e = never e
code_start Caret e = never e
code_start Minus e = never e
code_start Zeros e = never e
code_start Negative e = never e
code_start (Str k) e = never e
code_start (Esc l b) e = never e
code_start (X0 l b) e = never e
code_start (X1 l b) e = never e
code_start (U l b) e = never e
code_start (Un l b j) e = never e
code_start Chr e = never e
code_start (More t) e = never e
code_start Quote e = never e
code_start Slash e = never e
code_start Slash2 e = never e
code_start Line e = never e
code_start (Doc k) e = never e
code_start (DocCr k) e = never e
code_start Cr e = never e
code_start (Com d) e = never e
code_start (Star d) e = never e
code_start (Bar d) e = never e
code_start Refused e = never e

utf_start_lem : (u : Utf) → eqb (utf_code u) 0 ≡ true → u ≡ Whole
utf_start_lem Whole e = refl
utf_start_lem (Mid t s) e = let z : tail_code t + 1 ≡ 0 = eqb-true (tail_code t + 1) 0 e in absurd (omega arith)
utf_start_lem (Broke p) e = never e

pub between_is : (c : Stand) → Coherent c → is_between c ≡ true → c ≡ start_at c.seen c.count
unfolding is_between
between_is c s e =
    let h = and_true (eqb (code_of c.conf.state) 0) (eqb (utf_code c.utf) 0) e in
    let q : c.conf.state ≡ Start = code_start c.conf.state h.0 in
    let u : c.utf ≡ Whole = utf_start_lem c.utf h.1 in
    let f : eqb c.conf.size 0 ≡ true = rw q at s.state in
    let n : c.conf.size ≡ 0 = eqb-true c.conf.size 0 f in
    let w : waiting c.conf.state ≡ 0 = rw q in
    let a : c.conf.start ≡ c.seen = omega (arith, s.sum) in
    (λ i. record { conf = record { state = q i; start = a i; size = n i }; utf = u i; seen = c.seen; count = c.count })

good_whole : (a : ℕ) (u : Utf) → utf_end u ≡ None → broken_at u ≡ None
good_whole a Whole e = refl
good_whole a (Mid t s) e = refl
good_whole a (Broke p) e = e

pub clean_is : (a : ℕ) (xs : List ℕ) → first_bad xs ≡ None → broken_at (utf_feed Whole a xs) ≡ None
clean_is a xs e = good_whole a (utf_feed Whole a xs) (sym (machine_at a xs) ∙ ap (later a) e)

-- ---- one token

unmoved : (t : Token) (at k s e : ℕ) → moved at t ≡ Found k s e → t ≡ Found k (s - at) (e - at)
unmoved (Found c x y) at k s e h =
    let a : c ≡ k = cc in
    let b : at + x ≡ s = cc in
    let d : at + y ≡ e = cc in
    let f : x ≡ s - at = omega arith in
    let g : y ≡ e - at = omega arith in
    rw (a, f, g)
unmoved End at k s e h = let z : ◌≡◌ {A = ℕ} 0 1 = cc in absurd (omega arith)
unmoved (NoToken p) at k s e h = let z : ◌≡◌ {A = ℕ} 0 1 = cc in absurd (omega arith)

module _ (xs : List ℕ) (at k s e : ℕ) (h : Holds xs at k s e) where
  pub inside : (at ≤ s) × (s < e) × (e ≤ length xs) × (k ≤ 27)
  inside =
      let p = token_in xs at k s e h.found in
      (p.after, p.some, p.within, p.known)

  shorter : drop (e - at) (drop at xs) ≡ drop e xs
  shorter =
      let i = inside in
      let z : at + (e - at) ≡ e = omega arith in
      drop-drop (e - at) at xs ∙ ap (λ (n : ℕ). drop n xs) z

  pub clean_on : (p : ℕ) → broken_at (utf_feed Whole p (drop at xs)) ≡ None → broken_at (utf_feed Whole (p + (e - at)) (drop e xs)) ≡ None
  unfolding utf_feed
  clean_on p c =
      let i = inside in
      let m : ℕ = e - at in
      let ys : List ℕ = drop at xs in
      let ly : length ys ≡ length xs - at = length-drop at xs in
      let lt : length (take m ys) ≡ m = length-take-le m ys (omega (arith, h.inside)) in
      let u : Utf = utf_feed Whole p (take m ys) in
      let w : length (take m ys) + p ≡ p + m = omega arith in
      let y : ℕ = get_or xs e 0 in
      let d : drop e xs ≡ y ∷ drop (suc e) xs = drop-cons xs e 0 (omega (arith, h.inside)) in
      let f : utf_feed Whole p ys ≡ utf_feed u (p + m) (drop e xs) = ap (utf_feed Whole p) (sym (take-append-drop m ys)) ∙ utf_cuts (take m ys) (drop m ys) Whole p ∙ ap (λ (n : ℕ). utf_feed u n (drop m ys)) w ∙ ap (utf_feed u (p + m)) shorter in
      let g : broken_at (utf_feed u (p + m) (drop e xs)) ≡ None = ap broken_at (sym f) ∙ c in
      let j : broken_at (utf_feed u (p + m) (y ∷ drop (suc e) xs)) ≡ None = ap (λ (l : List ℕ). broken_at (utf_feed u (p + m) l)) (sym d) ∙ g in
      let b : u ≡ Whole = (ascii_next u (p + m) y h.ascii (still (drop (suc e) xs) (utf_step u (p + m) y) (suc (p + m)) j)).0 in
      ap (λ (v : Utf). broken_at (utf_feed v (p + m) (drop e xs))) (sym b) ∙ g

  leap_by : (room p n : ℕ) → Leaps room k (p + (s - at)) (p + (e - at)) (start_at p n) (drop at xs) ⊎ Closes room k (p + (s - at)) (p + (e - at)) (start_at p n) (drop at xs)
      → ran_of room (start_at p n) (drop at xs) ≡ given (tok k (p + (s - at)) (p + (e - at)) ∷ []) (ran_of room (start_at (p + (e - at)) (suc n)) (drop e xs))
  leap_by room p n (inl l) =
      let i = inside in
      let z : p + (e - at) ≡ p + l.0 = l.1 in
      let m : l.0 ≡ e - at = omega arith in
      let w : at + l.0 ≡ e = omega arith in
      let g : get_or (drop at xs) l.0 0 ≡ get_or xs e 0 = get_or-drop at xs l.0 0 ∙ ap (λ (j : ℕ). get_or xs j 0) w in
      let f : get_or (drop at xs) l.0 0 < 128 = rw g h.ascii in
      l.2 f ∙ ap (λ (ys : List ℕ). given (tok k (p + (s - at)) (p + (e - at)) ∷ []) (ran_of room (start_at (p + (e - at)) (suc n)) ys)) (ap (λ (j : ℕ). drop j (drop at xs)) m ∙ shorter)
  leap_by room p n (inr l) = never l.0

  pub leap_one : (room p n : ℕ) → Coherent (start_at p n) → p + (length xs - at) ≤ max_text → n < room → broken_at (utf_feed Whole p (drop at xs)) ≡ None
      → ran_of room (start_at p n) (drop at xs) ≡ given (tok k (p + (s - at)) (p + (e - at)) ∷ []) (ran_of room (start_at (p + (e - at)) (suc n)) (drop e xs))
  leap_one room p n sound short space clean =
      let i = inside in
      let ys : List ℕ = drop at xs in
      let m : ℕ = e - at in
      let ly : length ys ≡ length xs - at = length-drop at xs in
      let found : token_of ys ≡ Found k (s - at) m = unmoved (token_of ys) at k s e (sym (token_is xs at) ∙ h.found) in
      let listed : (left (start_at p n).conf ys).list ≡ tok k (p + (s - at)) (p + m) ∷ (from (p + m) (drop (m - 0) ys)).list = ap (λ (t : Tokens). t.list) (from_law p ys ∙ ap (ended p 0 ys) found) in
      leap_by room p n (leaps room k (p + (s - at)) (p + m) ys (start_at p n) _ sound (omega arith) space clean (omega (arith, h.inside)) listed)

-- ---- on the way

pub leapt_none : (room : ℕ) (c : Stand) (i n : ℕ) (xs l : List ℕ) → Coherent c → i ≤ length xs → n ≤ room_of l → Leapt room c i n xs l l c i
leapt_none room c i n xs l s h g =
    record {
      tokens = [];
      ran = loop_starts (ran_of room c (drop i xs));
      stored = refl;
      counted = sym (add-zero c.count);
      roomy = λ z. absurd (omega arith);
      fits = omega arith;
      within = h;
      sound = s;
    }

pub leapt_more : (room : ℕ) (c : Stand) (i n : ℕ) (xs l m : List ℕ) (d : Stand) (j : ℕ) (h : Leapt room c i n xs l m d j) (us : List Tok) (f : Stand) (a : ℕ) (o : List ℕ) → ran_of room d (drop j xs) ≡ given us (ran_of room f (drop a xs))
    → o ≡ sets m ((n + length h.tokens) * 3) (flat us) → f.count ≡ d.count + length us → (0 < length us → f.count ≤ room) → n + length h.tokens + length us ≤ room_of l → a ≤ length xs → Coherent f → Leapt room c i n xs l o f a
leapt_more room c i n xs l m d j h us f a o e p q r t w s =
    let ts : List Tok = h.tokens in
    let z : length (ts ++ us) ≡ length ts + length us = length-append ts us in
    record {
      tokens = ts ++ us;
      ran = h.ran ∙ ap (given ts) e ∙ given_given ts us (ran_of room f (drop a xs));
      stored = p ∙ ap (λ (y : List ℕ). sets y ((n + length ts) * 3) (flat us)) h.stored ∙ put_more l n ts us;
      counted = omega (arith, h.counted);
      roomy = roomy_by us q r z;
      fits = omega arith;
      within = w;
      sound = s;
    }
  where
    roomy_by : (vs : List Tok) → f.count ≡ d.count + length vs → (0 < length vs → f.count ≤ room) → length (h.tokens ++ vs) ≡ length h.tokens + length vs → 0 < length (h.tokens ++ vs) → f.count ≤ room
    roomy_by [] q r z y = let v : d.count ≤ room = h.roomy (omega arith) in omega arith
    roomy_by (v ∷ vs) q r z y = r (omega arith)

-- ---- all of it

pub over_fits : (room : ℕ) (us : List Tok) (n : ℕ) → over_at room n us ≡ None → 0 < length us → n + length us ≤ room
unfolding over_at
over_fits room [] n e h = absurd (omega arith)
over_fits room (tok k a b ∷ []) n e h = let z : n < room = (has_room room n a _ e).0 in omega arith
over_fits room (tok k a b ∷ u ∷ us) n e h =
    let z : suc n + length (u ∷ us) ≤ room = over_fits room (u ∷ us) (suc n) (has_room room n a _ e).1 (omega arith) in
    omega arith

-- the stash's front
pub stash_front : (ts : List Tok) (z : List ℕ) (n : ℕ) → length ts ≤ room_of z → n ≡ length ts * 3 → take n (sets z 0 (flat ts)) ≡ flat ts
stash_front ts z n h e =
    let a : length (flat ts) ≡ length ts * 3 = flat_length ts in
    let b : length z / 3 * 3 + length z % 3 ≡ length z = div-add-mod' (length z) 3 in
    let c : 0 + length (flat ts) ≤ length z = omega arith in
    ap (take n) (sets-eq (flat ts) z 0 c) ∙ take_at (flat ts) (drop (0 + length (flat ts)) z) n (a ∙ sym e)

-- ---- copying the stash

pub copied : (l s ys : List ℕ) (a n : ℕ) → n ≤ length s → a + n ≤ length l → ys ≡ take n s → put_mid a (a + n - a) l ys ≡ sets l a (take n s)
copied l s ys a n h g e =
    let k : a + n - a ≡ n = omega arith in
    let m : length (take n s) ≡ n = length-take-le n s h in
    rw (k, e, sets-eq (take n s) l a (omega arith), m, drop-drop n a l) (sym (append_assoc (take a l) (take n s) (drop (a + n) l)))

-- ---- in the words of the code

pub over_yes : (room : ℕ) (us : List Tok) (n : ℕ) → n + length us ≤ room → over_at room n us ≡ None
unfolding over_at
over_yes room [] n h = refl
over_yes room (t ∷ us) n h = rw (lt-ltb n room (omega arith)) (over_yes room us (suc n) (omega arith))

pub two_small : (g h : Option (ℕ × ℕ × ℕ)) → length (list_of g ++ list_of h) ≤ 2
two_small g h =
    let z : length (list_of g ++ list_of h) ≡ length (list_of g) + length (list_of h) = length-append (list_of g) (list_of h) in
    omega (arith, many_small g, many_small h)

pub settle_turn : (room : ℕ) (c : Stand) (xs l m o : List ℕ) (d : Stand) (i n : ℕ) (a b : Option (ℕ × ℕ × ℕ)) (f : Stand) → Leapt room c 0 0 xs l m d i → n + c.count ≡ d.count → i < length xs → n + 2 ≤ room_of l
    → Goes (list_of a ++ list_of b) f ≡ step_of room d (get_or xs i 0) → o ≡ sets m (n * 3) (flat (list_of a ++ list_of b)) → Leapt room c 0 0 xs l o f (i + 1)
settle_turn room c xs l m o d i n a b f h e g r v w =
    let us : List Tok = list_of a ++ list_of b in
    let k = step_room room d (get_or xs i 0) us f v in
    let q : f.count ≡ d.count + length us = k.1 in
    let z : n ≡ 0 + length h.tokens = omega (arith, h.counted) in
    let y : length us ≤ 2 = two_small a b in
    leapt_more room c 0 0 xs l m d i h us f (i + 1) o (at_move room d xs i g us f v) (w ∙ ap (λ (j : ℕ). sets m (j * 3) (flat us)) z) q
    (λ p. let x : d.count + length us ≤ room = over_fits room us d.count k.0 p in omega arith) (omega arith) (omega arith) (step_sound room d (get_or xs i 0) us f h.sound v)

pub sound_start : (p n : ℕ) → p ≤ max_text → n ≤ p → Coherent (start_at p n)
sound_start p n h g = record { short = h; sum = omega arith; count = g; state = refl; utf = refl }

pub sound_between : (c : Stand) → Coherent c → Coherent (start_at c.seen c.count)
sound_between c s = sound_start c.seen c.count s.short (omega (arith, s.count, s.sum))

pub leap_turn : (room : ℕ) (c : Stand) (i b : ℕ) (xs l m o : List ℕ) (p n at k s e j : ℕ) → Leapt room c i b xs l m (start_at p n) at → j + c.count ≡ n + b → Holds xs at k s e → p + (length xs - at) ≤ max_text → n < room
    → broken_at (utf_feed Whole p (drop at xs)) ≡ None → j < room_of l → o ≡ sets m (j * 3) (flat (tok k (p + (s - at)) (p + (e - at)) ∷ [])) → Leapt room c i b xs l o (start_at (p + (e - at)) (n + 1)) e
leap_turn room c i b xs l m o p n at k s e j h z t short space clean y w =
    let us : List Tok = tok k (p + (s - at)) (p + (e - at)) ∷ [] in
    let g = inside xs at k s e t in
    let g0 : at ≤ s = g.0 in
    let g1 : s < e = g.1 in
    let g2 : e ≤ length xs = g.2 in
    let q : n ≡ c.count + length h.tokens = h.counted in
    let v : j ≡ b + length h.tokens = omega arith in
    let x : n ≤ p = h.sound.count in
    let r : ran_of room (start_at p n) (drop at xs) ≡ given us (ran_of room (start_at (p + (e - at)) (n + 1)) (drop e xs)) = leap_one xs at k s e t room p n h.sound short space clean ∙ ap (λ (f : ℕ). given us (ran_of room (start_at (p + (e - at)) f) (drop e xs))) (sym (add-one n)) in
    leapt_more room c i b xs l m (start_at p n) at h us (start_at (p + (e - at)) (n + 1)) e o r (w ∙ ap (λ (f : ℕ). sets m (f * 3) (flat us)) v) refl (λ f. omega arith) (omega arith) g2 (sound_start (p + (e - at)) (n + 1) (omega arith) (omega arith))

pub leapt_same : (room : ℕ) (c d f g : Stand) (i n : ℕ) (xs l m : List ℕ) (j : ℕ) → c ≡ d → f ≡ g → Leapt room d i n xs l m g j → Leapt room c i n xs l m f j
leapt_same room c d f g i n xs l m j e h k = rw (e, h) k

pub all_left : (xs : List ℕ) (i : ℕ) → take (length xs - i) (drop i xs) ≡ drop i xs
all_left xs i = take_all (length xs - i) (drop i xs) (let z : length (drop i xs) ≡ length xs - i = length-drop i xs in omega arith)

-- ---- a whole packet: by the table up to a place between tokens, from token to token, and by the table again

same_room : (room : ℕ) (c : Stand) (i n : ℕ) (xs l m : List ℕ) (d : Stand) (j : ℕ) → Leapt room c i n xs l m d j → length m ≡ length l
same_room room c i n xs l m d j h = ap length h.stored ∙ length-sets l (n * 3) (flat h.tokens)

module _ (room : ℕ) (f : Stand) (xs z m : List ℕ) (d : Stand) (j : ℕ) (h : Leapt room f 0 0 xs z m d j) where
  pub so_many : d.count - f.count ≤ room_of m
  so_many =
      let l : length m ≡ length z = same_room room f 0 0 xs z m d j h in
      let e : d.count ≡ f.count + length h.tokens = h.counted in
      let g : 0 + length h.tokens ≤ room_of z = h.fits in
      let r : room_of z ≡ room_of m = ap (λ (n : ℕ). n / 3) (sym l) in
      omega arith

  pub leapt_both : (o : List ℕ) (c : Stand) (a : ℕ) → Leapt room d j (d.count - f.count) xs m o c a → Leapt room f 0 0 xs z o c a
  leapt_both o c a g =
      let e : d.count ≡ f.count + length h.tokens = h.counted in
      let k : d.count - f.count ≡ 0 + length h.tokens = omega arith in
      let l : length m ≡ length z = same_room room f 0 0 xs z m d j h in
      let r : room_of m ≡ room_of z = ap (λ (n : ℕ). n / 3) l in
      leapt_more room f 0 0 xs z m d j h g.tokens c a o g.ran (g.stored ∙ ap (λ (n : ℕ). sets m (n * 3) (flat g.tokens)) k) g.counted g.roomy (omega (arith, g.fits)) g.within g.sound

  pub stash_fits : (d.count - f.count) * 3 ≤ length m
  stash_fits = omega (arith, so_many, div-mul-le_self (length m) 3)

  pub list_fits : (l : List ℕ) → room ≡ room_of l → 0 < (d.count - f.count) * 3 → f.count * 3 + (d.count - f.count) * 3 ≤ length l
  list_fits l e p =
      let q : d.count ≡ f.count + length h.tokens = h.counted in
      let r : d.count ≤ room = h.roomy (omega arith) in
      omega (arith, div-mul-le_self (length l) 3)

  all_ran : (s : Step) → ran_of room d (take (length xs - j) (drop j xs)) ≡ s → ran_of room f xs ≡ given h.tokens s
  all_ran s e = h.ran ∙ ap (given h.tokens) (ap (ran_of room d) (sym (all_left xs j)) ∙ e)

  pub ran_stops : (n p : ℕ) → ran_of room d (take (length xs - j) (drop j xs)) ≡ Faults n p → ran_of room f xs ≡ Faults n p
  ran_stops n p e = all_ran (Faults n p) e

  pub ran_on : (us : List Tok) (c : Stand) → ran_of room d (take (length xs - j) (drop j xs)) ≡ Goes us c → ran_of room f xs ≡ Goes (h.tokens ++ us) c
  ran_on us c e = all_ran (Goes us c) e

  pub stores : (l k o : List ℕ) (us : List Tok) (c : Stand) → ran_of room d (take (length xs - j) (drop j xs)) ≡ Goes us c → k ≡ sets l (f.count * 3) (take ((d.count - f.count) * 3) m)
      → o ≡ sets k (d.count * 3) (flat us) → o ≡ sets l (f.count * 3) (flat (gives_of (ran_of room f xs)))
  stores l k o us c e p q =
      let ts : List Tok = h.tokens in
      let g : d.count ≡ f.count + length ts = h.counted in
      let n : (d.count - f.count) * 3 ≡ length ts * 3 = omega arith in
      let t : take ((d.count - f.count) * 3) m ≡ flat ts = ap (take ((d.count - f.count) * 3)) h.stored ∙ stash_front ts z ((d.count - f.count) * 3) (omega (arith, h.fits)) n in
      q
      ∙ ap (λ (y : List ℕ). sets y (d.count * 3) (flat us)) (p ∙ ap (sets l (f.count * 3)) t)
      ∙ ap (λ (a : ℕ). sets (sets l (f.count * 3) (flat ts)) (a * 3) (flat us)) g
      ∙ put_more l f.count ts us
      ∙ ap (λ (s : Step). sets l (f.count * 3) (flat (gives_of s))) (sym (ran_on us c e))

-- ---- the packet up to a place

pub leapt_longer : (room : ℕ) (c : Stand) (xs z m : List ℕ) (d : Stand) (j l : ℕ) → l ≤ length xs → Leapt room c 0 0 (take (l - 0) (drop 0 xs)) z m d j → Leapt room c 0 0 xs z m d j
leapt_longer room c xs z m d j l g h =
    let ys : List ℕ = take (l - 0) (drop 0 xs) in
    let vs : List ℕ = drop l xs in
    let y : l - 0 ≡ l = omega arith in
    let e : ys ++ vs ≡ xs = rw y (take-append-drop l xs) in
    let n : length ys + length vs ≡ length xs = sym (length-append ys vs) ∙ ap length e in
    let f : drop j ys ++ vs ≡ drop j xs = sym (drop-append-le j ys vs h.within) ∙ ap (drop j) e in
    let r : ran_of room c (ys ++ vs) ≡ given h.tokens (ran_of room d (drop j ys ++ vs)) = ran_cut room ys vs c ∙ ap (λ (s : Step). followed s (λ g. ran_of room g vs)) h.ran ∙ followed_given h.tokens (ran_of room d (drop j ys)) (λ g. ran_of room g vs) ∙ ap (given h.tokens) (sym (ran_cut room (drop j ys) vs d)) in
    record {
      tokens = h.tokens;
      ran = ap (ran_of room c) (sym e) ∙ r ∙ ap (λ (s : List ℕ). given h.tokens (ran_of room d s)) f;
      stored = h.stored;
      counted = h.counted;
      roomy = h.roomy;
      fits = h.fits;
      within = omega (arith, h.within);
      sound = h.sound;
    }
