-- The steps of an expression's loop: the choices so far and the last sequence, in the buffers.
use Rattle.std.specs.Prelude.{Option, Some, None}
use Prim.Native.Nat.{ℕ, ◌+◌, ◌-◌, ◌*◌, ◌≤◌, ◌<◌}
use mathlib.Core.Path.{◌≡◌, refl, sym, ap, ◌∙◌}
use mathlib.Core.Bool.{Bool, true, false}
use mathlib.Core.List.{List}
use native.Mathlib.Omega.{arith}
use lib.ListN.{length}
use lib.Seq.{sets}
use Rattle.text.proofs.Booleans.{choose_false, choose_true}
use Rattle.token.specs.Table.{toks, is}
use Rattle.table.specs.declared.Join.TheVariants.{Seq, Choice}
use Rattle.table.specs.declared.Node.TheVariants.{Two}
use Rattle.table.specs.Tree.{Span, Tree, below, count, size, stored, place_of}
use Rattle.table.specs.Record.{node_size}
use Rattle.table.specs.Flat.{no_line, record_of, flat}
use Rattle.structure.specs.declared.Level.{Level}
use Rattle.structure.specs.Answers.{unread}
use Rattle.structure.specs.Structure.{got, next, join, closed, expr, term, chain, Run}
use Rattle.structure.proofs.Steps.{inside_is, next_got, next_good}
use Rattle.structure.proofs.Sizes.{count_join, size_join, count_closed, size_closed, count_more, size_more}
use Rattle.structure.proofs.Fuel.{went}
use Rattle.structure.proofs.Wants.{fewer}
use Rattle.structure.proofs.Grammar.{expr_law, chain_law}
use Rattle.build.specs.declared.Placed.{Placed}
use Rattle.build.specs.Build.{TreeRoom, Laid, Built, chosen_end, chosen_of, ChoiceRoom}
use Rattle.records.specs.Records.{written, most, Over}
use Rattle.records.proofs.Patches.{spanned}
use Rattle.build.proofs.Lays.{laid_long, two_laid}

-- ---- in the buffers

-- the choices so far, if there are any, and then the last sequence
pub record Both (c l : Tree Span) (table store : List ℕ) (used free : ℕ) (tbl st : List ℕ) : Type 0 where
  pub table₁ : List ℕ
  pub store₁ : List ℕ
  pub first : Laid c table store used free table₁ store₁
  pub second : Laid l table₁ store₁ (used + count c) (free + size c) tbl st

abbrev pub Held : Option (Tree Span) → Tree Span → List ℕ → List ℕ → ℕ → ℕ → List ℕ → List ℕ → Type 0
Held None l table store used free tbl st = Laid l table store used free tbl st
Held (Some c) l table store used free tbl st = Both c l table store used free tbl st

abbrev pub held_count : Option (Tree Span) → ℕ
held_count None = 0
held_count (Some c) = count c

abbrev pub held_bytes : Option (Tree Span) → ℕ
held_bytes None = 0
held_bytes (Some c) = size c

-- whether a choice is pending, and its root
abbrev pub Marked : Option (Tree Span) → Bool → ℕ → ℕ → Type 0
Marked None chosen left used = chosen ≡ false
Marked (Some c) chosen left used = (chosen ≡ true) × (left ≡ used + below c)

-- where the whole starts
abbrev pub head_of : Option (Tree Span) → Tree Span → ℕ
head_of None l = (place_of l).start
head_of (Some c) l = (place_of c).start

pub head_closed : (c : Option (Tree Span)) (l : Tree Span) → (place_of (closed c l)).start ≡ head_of c l
unfolding closed join
head_closed None l = refl
head_closed (Some c) l = refl

pub stop_closed : (c : Option (Tree Span)) (l : Tree Span) → (place_of (closed c l)).stop ≡ (place_of l).stop
unfolding closed join
stop_closed None l = refl
stop_closed (Some c) l = refl

pub head_join : (c : Option (Tree Span)) (l r : Tree Span) → head_of c l ≡ head_of c (join Seq l r)
unfolding join
head_join None l r = refl
head_join (Some c) l r = refl

pub held_long : (c : Option (Tree Span)) (l : Tree Span) (table store : List ℕ) (used free : ℕ) (tbl st : List ℕ) → Held c l table store used free tbl st
    → (length tbl ≡ length table) × (length st ≡ length store)
held_long None l table store used free tbl st h = laid_long l table store used free tbl st h
held_long (Some c) l table store used free tbl st h =
    let p = laid_long c table store used free h.table₁ h.store₁ h.first in
    let q = laid_long l h.table₁ h.store₁ (used + count c) (free + size c) tbl st h.second in
    (q.0 ∙ p.0, q.1 ∙ p.1)

-- how many nodes and bytes there are once the choice is closed
pub closed_count : (c : Option (Tree Span)) (l : Tree Span) (chosen : Bool) (left used u : ℕ) → Marked c chosen left used → u ≡ used + held_count c + count l
    → chosen_end chosen u ≡ used + count (closed c l)
unfolding closed
closed_count None l chosen left used u m e = ap (λ (b : Bool). chosen_end b u) m ∙ omega arith
closed_count (Some c) l chosen left used u m e = ap (λ (b : Bool). chosen_end b u) m.0 ∙ omega (arith, count_join Choice c l)

pub closed_size : (c : Option (Tree Span)) (l : Tree Span) (free f : ℕ) → f ≡ free + held_bytes c + size l → f ≡ free + size (closed c l)
unfolding closed
closed_size None l free f e = omega arith
closed_size (Some c) l free f e = omega (arith, size_join Choice c l)

pub closed_laid : (c : Option (Tree Span)) (l : Tree Span) (table store : List ℕ) (used free : ℕ) (tbl st tbl' : List ℕ) (chosen : Bool) (left u a z : ℕ) → Held c l table store used free tbl st
    → Marked c chosen left used → u ≡ used + held_count c + count l → a ≡ head_of c l → z ≡ (place_of l).stop → tbl' ≡ written tbl u (chosen_of chosen left u a z)
    → Laid (closed c l) table store used free tbl' st
unfolding closed join written
closed_laid None l table store used free tbl st tbl' chosen left u a z h m e e₁ e₂ q =
    record { holds = q ∙ ap (λ (b : Bool). written tbl u (chosen_of b left u a z)) m ∙ h.holds; keeps = h.keeps }
closed_laid (Some c) l table store used free tbl st tbl' chosen left u a z h m e e₁ e₂ q =
    let r : tbl' ≡ written tbl u (record_of no_line (spanned (place_of c).start (place_of l).stop) (Two Choice left (u - 1))) =
    q ∙ ap (λ (b : Bool). written tbl u (chosen_of b left u a z)) m.0 ∙ ap (λ (k : ℕ). written tbl u (record_of no_line (spanned k z) (Two Choice left (u - 1)))) e₁
    ∙ ap (λ (k : ℕ). written tbl u (record_of no_line (spanned (place_of c).start k) (Two Choice left (u - 1)))) e₂ in
    two_laid table store used free c l h.table₁ h.store₁ tbl st tbl' (spanned (place_of c).start (place_of l).stop) Choice (used + count c) (free + size c) u left (u - 1) h.first
    refl refl h.second (omega arith) m.1 (omega arith) r

-- a `~` joins the last sequence to the next term
pub seq_held : (c : Option (Tree Span)) (l r : Tree Span) (table store : List ℕ) (used free : ℕ) (tbl st tbl₁ st₁ tbl₂ : List ℕ) (u f g b z : ℕ) → Held c l table store used free tbl st
    → u ≡ used + held_count c + count l → f ≡ free + held_bytes c + size l → Laid r tbl st u f tbl₁ st₁ → g ≡ u + count r → b ≡ (place_of l).start → z ≡ (place_of r).stop
    → tbl₂ ≡ written tbl₁ g (record_of no_line (spanned b z) (Two Seq (u - 1) (g - 1))) → Held c (join Seq l r) table store used free tbl₂ st₁
unfolding join
seq_held None l r table store used free tbl st tbl₁ st₁ tbl₂ u f g b z h e₁ e₂ d e₃ e₄ e₅ q =
    two_laid table store used free l r tbl st tbl₁ st₁ tbl₂ (spanned (place_of l).start (place_of r).stop) Seq u f g (u - 1) (g - 1) h (omega arith) (omega arith) d e₃ (omega arith) (omega arith)
    (q ∙ ap (λ (k : ℕ). written tbl₁ g (record_of no_line (spanned k z) (Two Seq (u - 1) (g - 1)))) e₄ ∙ ap (λ (k : ℕ). written tbl₁ g (record_of no_line (spanned (place_of l).start k) (Two Seq (u - 1) (g - 1)))) e₅)
seq_held (Some c) l r table store used free tbl st tbl₁ st₁ tbl₂ u f g b z h e₁ e₂ d e₃ e₄ e₅ q =
    record {
      table₁ = h.table₁;
      store₁ = h.store₁;
      first = h.first;
      second = two_laid h.table₁ h.store₁ (used + count c) (free + size c) l r tbl st tbl₁ st₁ tbl₂ (spanned (place_of l).start (place_of r).stop) Seq u f g (u - 1) (g - 1) h.second
          e₁ e₂ d e₃ (omega arith) (omega arith)
          (q ∙ ap (λ (k : ℕ). written tbl₁ g (record_of no_line (spanned k z) (Two Seq (u - 1) (g - 1)))) e₄ ∙ ap (λ (k : ℕ). written tbl₁ g (record_of no_line (spanned (place_of l).start k) (Two Seq (u - 1) (g - 1)))) e₅);
    }

-- a `|` closes the choice and begins a sequence
pub bar_held : (t r : Tree Span) (table store : List ℕ) (used free : ℕ) (tbl st tbl₁ st₁ : List ℕ) (u f : ℕ) → Laid t table store used free tbl st → u ≡ used + count t → f ≡ free + size t
    → Laid r tbl st u f tbl₁ st₁ → Held (Some t) r table store used free tbl₁ st₁
bar_held t r table store used free tbl st tbl₁ st₁ u f h e₁ e₂ d =
    record {
      table₁ = tbl;
      store₁ = st;
      first = h;
      second = record {
        holds = d.holds ∙ ap (λ (k : ℕ). written tbl k (flat no_line k f r)) e₁ ∙ ap (λ (k : ℕ). written tbl (used + count t) (flat no_line (used + count t) k r)) e₂;
        keeps = d.keeps ∙ ap (λ (k : ℕ). sets st k (stored r)) e₂;
      };
    }

chosen_more : (c : Bool) (n : ℕ) → n ≤ chosen_end c n
chosen_more true n = omega arith
chosen_more false n = omega arith

-- ---- the loop

pub record BuildInv (level : Level) (s : List ℕ) (o at used free : ℕ) (table store : List ℕ) (i u f a b z : ℕ) (chosen : Bool) (left : ℕ) (tbl st : List ℕ) : Type 0 where
  pub room : TreeRoom (Run level s (expr o at)) table store used free
  pub c : Option (Tree Span)
  pub l : Tree Span
  pub meaning : Run level s (expr o at) ≡ Run level s (chain o c l i)
  pub past : at < i
  pub within : i ≤ length (toks s)
  pub used_is : u ≡ used + held_count c + count l
  pub free_is : f ≡ free + held_bytes c + size l
  pub marked : Marked c chosen left used
  pub low : left ≤ most
  pub head_is : a ≡ head_of c l
  pub from_is : b ≡ (place_of l).start
  pub to_is : z ≡ (place_of l).stop
  pub short : (a ≤ most) × (b ≤ most) × (z ≤ most)
  pub held : Held c l table store used free tbl st

-- whatever the buffers were before the first term
abbrev pub LoopInv : Level → List ℕ → ℕ → ℕ → ℕ → ℕ → Placed → List ℕ → List ℕ → ℕ → ℕ → ℕ → ℕ → ℕ → ℕ → Bool → ℕ → List ℕ → List ℕ → Type 0
LoopInv level s o at used free first table₀ store₀ i u f a b z chosen left tbl st =
    (table store : List ℕ) → TreeRoom (Run level s (expr o at)) table store used free → Built (Run level s (term o at)) table store used free first table₀ store₀
    → BuildInv level s o at used free table store i u f a b z chosen left tbl st

module _ (level : Level) (s : List ℕ) (o at : ℕ) {used free : ℕ} {table store : List ℕ} (g : TreeRoom (Run level s (expr o at)) table store used free) where
  pub first_room : TreeRoom (Run level s (term o at)) table store used free
  unfolding closed
  first_room =
      let (t, i, e₁, e₂) = next_got _ _ (sym (expr_law level s o at) ∙ g.read) in
      let q = went level s (chain o None t i) g.tree g.end e₂ in
      let m = q.more in
      let n = q.large in
      let h₁ = g.room in
      let h₂ = g.few in
      let h₃ = g.fits in
      let h₄ = g.low in
      record { tree = t; end = i; read = e₁; room = omega arith; few = omega arith; fits = omega arith; low = omega arith }

  pub build_start : {r : Placed} {tbl st : List ℕ} → Built (Run level s (term o at)) table store used free r tbl st
      → BuildInv level s o at used free table store r.next r.used r.free r.from r.from r.to false 0 tbl st
  build_start {r} {tbl} {st} d =
      let p = went level s (term o at) d.tree r.next d.read in
      let x = p.on in
      let y = p.within in
      let e₁ = d.used_is in
      let e₂ = d.free_is in
      record {
        room = g;
        c = None;
        l = d.tree;
        meaning = expr_law level s o at ∙ next_good _ _ d.read;
        past = omega arith;
        within = omega arith;
        used_is = omega arith;
        free_is = omega arith;
        marked = refl;
        low = omega arith;
        head_is = d.from_is;
        from_is = d.from_is;
        to_is = d.to_is;
        short = (d.short.0, d.short.0, d.short.1);
        held = d.laid;
      }

module _ {level : Level} {s : List ℕ} {o at used free : ℕ} {table store : List ℕ} {i u f a b z : ℕ} {chosen : Bool} {left : ℕ} {tbl st : List ℕ}
    (v : BuildInv level s o at used free table store i u f a b z chosen left tbl st) where
  abbrev pub whole : Tree Span
  whole = closed v.c v.l

  pub same_long : (length tbl ≡ length table) × (length st ≡ length store)
  same_long = held_long v.c v.l table store used free tbl st v.held

  fits : (count whole ≤ count v.room.tree) × (size whole ≤ size v.room.tree)
  fits = let q = went level s (chain o v.c v.l i) v.room.tree v.room.end (sym v.meaning ∙ v.room.read) in (q.more, q.large)

  pub choice_room : ChoiceRoom tbl chosen left u a z
  choice_room =
      let e = closed_count v.c v.l chosen left used u v.marked v.used_is in
      let p = fits in
      let l = same_long in
      let x = v.used_is in
      let h₁ = v.room.room in
      let h₂ = v.room.few in
      let m = chosen_more chosen u in
      record { room = omega arith; few = omega arith; child = v.low; from = v.short.0; to = v.short.2; after = omega arith }

  module _ {u' : ℕ} {tbl' : List ℕ} (q : (u' ≡ chosen_end chosen u) × (tbl' ≡ written tbl u (chosen_of chosen left u a z))) where
    whole_laid : Laid whole table store used free tbl' st
    whole_laid = closed_laid v.c v.l table store used free tbl st tbl' chosen left u a z v.held v.marked v.used_is v.head_is v.to_is q.1

    whole_used : u' ≡ used + count whole
    whole_used = q.0 ∙ closed_count v.c v.l chosen left used u v.marked v.used_is

    whole_free : f ≡ free + size whole
    whole_free = closed_size v.c v.l free f v.free_is

    -- the end of the expression
    pub build_done : is s i 10 ≡ false → is s i 11 ≡ false
        → Built (Run level s (expr o at)) table store used free (record { next = i; used = u'; free = f; from = a; to = z }) tbl' st
    build_done n₁ n₂ = record {
      tree = whole;
      read = v.meaning ∙ chain_law level s o v.c v.l i ∙ choose_false (is s i 10) _ _ n₁ ∙ choose_false (is s i 11) _ _ n₂;
      used_is = whole_used;
      free_is = whole_free;
      from_is = v.head_is ∙ sym (head_closed v.c v.l);
      to_is = v.to_is ∙ sym (stop_closed v.c v.l);
      short = (v.short.0, v.short.2);
      laid = whole_laid;
    }

    -- a `|`
    module _ (n₁ : is s i 10 ≡ false) (n₂ : is s i 11 ≡ true) where
      bar_means : Run level s (expr o at) ≡ next (Run level s (term o (i + 1))) (λ r n. Run level s (chain o (Some whole) r n))
      bar_means = v.meaning ∙ chain_law level s o v.c v.l i ∙ choose_false (is s i 10) _ _ n₁ ∙ choose_true (is s i 11) _ _ n₂

      pub bar_inside : (i < length (toks s)) × (0 < u') × (u' ≤ most)
      bar_inside =
          let e = whole_used in
          let p = fits in
          let h = v.room.few in
          (inside_is s i 11 (omega arith) n₂, omega arith, omega arith)

      pub bar_falls : unread s (i + 1) < unread s at
      bar_falls = fewer s at (i + 1) (omega (arith, v.past)) (omega (arith, bar_inside.0))

      pub bar_room : TreeRoom (Run level s (term o (i + 1))) tbl' st u' f
      bar_room =
          let (t, n, e₁, e₂) = next_got _ _ (sym bar_means ∙ v.room.read) in
          let q = went level s (chain o (Some whole) t n) v.room.tree v.room.end e₂ in
          let m = q.more in
          let k = q.large in
          let c₁ = count_more v.c v.l t in
          let c₂ = size_more v.c v.l t in
          let e = whole_used in
          let e₃ = whole_free in
          let l = laid_long whole table store used free tbl' st whole_laid in
          let h₁ = v.room.room in
          let h₂ = v.room.few in
          let h₃ = v.room.fits in
          let h₄ = v.room.low in
          record { tree = t; end = n; read = e₁; room = omega arith; few = omega arith; fits = omega arith; low = omega arith }

      pub bar_more : {r : Placed} {tbl₂ st₂ : List ℕ} → Built (Run level s (term o (i + 1))) tbl' st u' f r tbl₂ st₂
          → (i < r.next) × BuildInv level s o at used free table store r.next r.used r.free a r.from r.to true (u' - 1) tbl₂ st₂
      bar_more {r} {tbl₂} {st₂} d =
          let p = went level s (term o (i + 1)) d.tree r.next d.read in
          let x = p.on in
          let y = p.within in
          let w = bar_inside in
          let e = whole_used in
          let e₁ = d.used_is in
          let e₂ = d.free_is in
          let e₃ = whole_free in
          let y₁ = v.past in (
            omega arith,
            record {
              room = v.room;
              c = Some whole;
              l = d.tree;
              meaning = bar_means ∙ next_good _ _ d.read;
              past = omega arith;
              within = omega arith;
              used_is = omega arith;
              free_is = omega arith;
              marked = (refl, omega arith);
              low = omega arith;
              head_is = v.head_is ∙ sym (head_closed v.c v.l);
              from_is = d.from_is;
              to_is = d.to_is;
              short = (v.short.0, d.short.0, d.short.1);
              held = bar_held whole d.tree table store used free tbl' st tbl₂ st₂ u' f whole_laid whole_used whole_free d.laid;
            },
          )

  -- a `~`
  module _ (e : is s i 10 ≡ true) where
    seq_means : Run level s (expr o at) ≡ next (Run level s (term o (i + 1))) (λ r n. Run level s (chain o v.c (join Seq v.l r) n))
    seq_means = v.meaning ∙ chain_law level s o v.c v.l i ∙ choose_true (is s i 10) _ _ e

    pub seq_inside : i < length (toks s)
    seq_inside = inside_is s i 10 (omega arith) e

    pub seq_falls : unread s (i + 1) < unread s at
    seq_falls = fewer s at (i + 1) (omega (arith, v.past)) (omega (arith, seq_inside))

    seq_shape : (t : Tree Span) × (n : ℕ) × (Run level s (term o (i + 1)) ≡ got t n) × (u + count t + 1 ≤ used + count v.room.tree) × (f + size t ≤ free + size v.room.tree)
    seq_shape =
        let (t, n, e₁, e₂) = next_got _ _ (sym seq_means ∙ v.room.read) in
        let q = went level s (chain o v.c (join Seq v.l t) n) v.room.tree v.room.end e₂ in
        let m = q.more in
        let k = q.large in
        let c₁ = count_closed v.c v.l t in
        let c₂ = size_closed v.c v.l t in
        let x = closed_count v.c v.l chosen left used u v.marked v.used_is in
        let y = closed_size v.c v.l free f v.free_is in
        let w = chosen_more chosen u in
        (t, n, e₁, omega arith, omega arith)

    pub seq_room : TreeRoom (Run level s (term o (i + 1))) tbl st u f
    seq_room =
        let (t, n, e₁, h₁, h₂) = seq_shape in
        let x = same_long in
        let h = v.room.room in
        let j = v.room.few in
        let k = v.room.fits in
        let m = v.room.low in
        record { tree = t; end = n; read = e₁; room = omega arith; few = omega arith; fits = omega arith; low = omega arith }

    module _ {r : Placed} {tbl₁ st₁ : List ℕ} (d : Built (Run level s (term o (i + 1))) tbl st u f r tbl₁ st₁) where
      pub seq_fits : (u ≤ most) × (0 < u) × (r.used < most) × (node_size * (r.used + 1) ≤ length tbl₁)
      seq_fits =
          let (t, n, e₁, h₁, h₂) = seq_shape in
          let y : t ≡ d.tree = cc (e₁, d.read) in
          let c = ap (count {P = Span}) y in
          let x = same_long in
          let x₁ = laid_long d.tree tbl st u f tbl₁ st₁ d.laid in
          let h = v.room.room in
          let j = v.room.few in
          let m = d.used_is in
          let q = v.used_is in
          (omega arith, omega arith, omega arith, omega arith)

      pub seq_over : Over tbl₁ r.used b r.to × (u - 1 ≤ most)
      seq_over =
          let f = seq_fits in
          let m = d.used_is in
          (record { room = omega arith; from = v.short.1; to = d.short.1; few = omega arith; after = omega arith }, omega arith)

      pub seq_more : {tbl₂ : List ℕ} → tbl₂ ≡ written tbl₁ r.used (record_of no_line (spanned b r.to) (Two Seq (u - 1) (r.used - 1)))
          → (i < r.next) × BuildInv level s o at used free table store r.next (r.used + 1) r.free a b r.to chosen left tbl₂ st₁
      unfolding join below
      seq_more {tbl₂} q =
          let p = went level s (term o (i + 1)) d.tree r.next d.read in
          let x = p.on in
          let y = p.within in
          let m = seq_inside in
          let y₁ = v.past in
          let e₁ = d.used_is in
          let e₂ = d.free_is in
          let e₃ = v.used_is in
          let e₄ = v.free_is in
          let c₁ = count_join Seq v.l d.tree in
          let c₂ = size_join Seq v.l d.tree in (
            omega arith,
            record {
              room = v.room;
              c = v.c;
              l = join Seq v.l d.tree;
              meaning = seq_means ∙ next_good _ _ d.read;
              past = omega arith;
              within = omega arith;
              used_is = omega arith;
              free_is = omega arith;
              marked = v.marked;
              low = v.low;
              head_is = v.head_is ∙ head_join v.c v.l d.tree;
              from_is = v.from_is;
              to_is = d.to_is;
              short = (v.short.0, v.short.1, d.short.1);
              held = seq_held v.c v.l d.tree table store used free tbl st tbl₁ st₁ tbl₂ u f r.used b r.to v.held v.used_is v.free_is d.laid d.used_is v.from_is d.to_is q;
            },
          )
