-- A value against a definition under Array or Map, on plain values: one law for each way out of `judge`, `judge_array` and `judge_map`. The loops
-- go through the elements of an array, or through the members of an object; their invariants, `InArray` and `InMap`, say that
-- what is left to judge answers for the whole, from the dates so far.
use Prim.Native.Nat.{ℕ, ◌+◌, ◌<◌}
use mathlib.Core.Path.{◌≡◌, refl, sym, ap, ap₂, subst, ◌∙◌}
use mathlib.Core.List.{List, [], ◌++◌}
use lib.Dec.{eqb}
use borrow.Author.Tests.{eqb-true}
use Rattle.std.specs.Prelude.{Option, Some, None, Ok, Err}
use Rattle.syntax.specs.Tree.{Node, Nodes, Members}
use Rattle.syntax.specs.Holding.{word}
use Rattle.definitions.specs.Definitions.{Located, named-at, array_at, map_at, object-at}
use Rattle.definitions.specs.Shapes.{generic_in, GenericRow}
use Rattle.schema.specs.Judging.{Judgement, nothing, unless, Visit, each_element, each_member, visits}
use Rattle.schema.specs.Walks.{Walks, Judgeable, Judged, NameJudgeable, ArrayJudgeable, MapJudgeable, BodyJudgeable}
use Rattle.rows.specs.Children.{Passes, Begins}
use Rattle.rows.specs.Records.{Reads, Rowed, ArrayRow, ObjectRow}
use Rattle.rows.specs.declared.children.Children.{Children}
use Rattle.rows.specs.declared.records.Record.{Record}
use Rattle.schema.specs.declared.dates.Dates.{Dates}
use Rattle.schema.specs.declared.judging.Mismatch.{Mismatch}
use Rattle.definitions.specs.declared.types.Generic.{Generic}
use Rattle.definitions.specs.declared.types.Generic.TheVariants.{Array, Map, Object}
use Rattle.definitions.proofs.Facts.{Element, Inside, inside}
use Rattle.rows.proofs.Facts.{elements_in, members_in, array_row, object_row, kind_read, as_array, as_object}
use Rattle.rows.proofs.Facts.{ItemsLeft, items_start, item_here, items_next, items_end, NamesLeft, names_start, name_here, names_next, names_end}
use Rattle.schema.proofs.judging.OtherKinds.{array_kind, object_kind}
use Rattle.schema.proofs.judging.Laws.{passed, walks_none, walks_passes, walks_stops, walks_on, defined, judged, conclude, wrong_kind}

-- ---- the generic type was read

-- what a definition is by its generic type
abbrev ByGeneric : List ℕ → List ℕ → List ℕ → List ℕ → ℕ → ℕ → Option Generic → Type 0
ByGeneric s₁ s₂ t₁ t₂ r₁ r₂ None = NameJudgeable s₁ s₂ t₁ t₂ r₁ r₂
ByGeneric s₁ s₂ t₁ t₂ r₁ r₂ (Some Array) = ArrayJudgeable s₁ s₂ t₁ t₂ r₁ r₂
ByGeneric s₁ s₂ t₁ t₂ r₁ r₂ (Some Map) = MapJudgeable s₁ s₂ t₁ t₂ r₁ r₂
ByGeneric s₁ s₂ t₁ t₂ r₁ r₂ (Some Object) = BodyJudgeable s₁ s₂ t₁ t₂ r₁ r₂

pub by_generic : {s₁ s₂ t₁ t₂ : List ℕ} {r₁ r₂ : ℕ} → Judgeable s₁ s₂ t₁ t₂ r₁ r₂ → {g k : Option Generic} → GenericRow s₂ t₂ r₂ g → g ≡ k
    → ByGeneric s₁ s₂ t₁ t₂ r₁ r₂ k
by_generic {s₁} {s₂} {t₁} {t₂} {r₁} {r₂} j i q =
    subst (ByGeneric s₁ s₂ t₁ t₂ r₁ r₂) (sym (i.tells (defined j)) ∙ q) (go j.definition refl)
  where
    go : (d : Located) → j.definition ≡ d → ByGeneric s₁ s₂ t₁ t₂ r₁ r₂ (generic_in d)
    go (named-at p t) q = record { given = j; place = p; type = t; is = q }
    go (array_at p e) q = record { given = j; place = p; element = e; is = q }
    go (map_at p e) q = record { given = j; place = p; element = e; is = q }
    go (object-at p r o) q = record { given = j; place = p; required = r; optional = o; is = q }

-- ---- values, one after the other

-- the next value, at row `here`, which the element's definition judges before the others
pub record Turn (s₁ s₂ t₁ t₂ : List ℕ) (r₁ r₂ here : ℕ) (d₀ d : Dates) : Type 0 where
  pub given : Judgeable s₁ s₂ t₁ t₂ r₁ r₂
  pub one : Judgeable s₁ s₂ t₁ t₂ here (r₂ + 2)
  pub less : word t₂ (r₂ + 2) 4 < word t₂ r₂ 4
  pub others : List Visit
  pub onward : {m : Judgement} {d₂ : Dates} → Walks s₁ (judged one ++ others) m d d₂ → Walks s₁ (judged given) m d₀ d₂

module _ {s₁ s₂ t₁ t₂ : List ℕ} {r₁ r₂ here : ℕ} {d₀ d : Dates} (k : Turn s₁ s₂ t₁ t₂ r₁ r₂ here d₀ d)
    {m : Judgement} {d₂ : Dates} (h : Judged s₁ s₂ t₁ t₂ here (r₂ + 2) m d d₂) where
  pub turn_stops : {x : Mismatch} → m ≡ Err x → Judged s₁ s₂ t₁ t₂ r₁ r₂ (Err x) d₀ d₂
  turn_stops e = conclude k.given (k.onward (walks_stops (h.tells k.one) e k.others))

  turn_goes_on : m ≡ nothing → {n : Judgement} {d₃ : Dates} → Walks s₁ k.others n d₂ d₃ → Walks s₁ (judged k.given) n d₀ d₃
  turn_goes_on e w = k.onward (walks_on (h.tells k.one) e w)

-- `rest` of an array or an object is left to judge, and `ahead` says where its rows are; `each` is what is judged of it
pub record InValues (A : Type 0) (each : (Node → List Visit) → A → List Visit) (Left : A → Type 0)
    (s₁ s₂ t₁ t₂ : List ℕ) (r₁ r₂ : ℕ) (d₀ d : Dates) : Type 0 where
  pub given : Judgeable s₁ s₂ t₁ t₂ r₁ r₂
  pub element : Located
  pub inner : Element s₂ t₂ r₂ element
  pub rest : A
  pub ahead : Left rest
  pub onward : {m : Judgement} {d₂ : Dates} → Walks s₁ (each (visits s₁ element) rest) m d d₂ → Walks s₁ (judged given) m d₀ d₂

module _ {A : Type 0} {each : (Node → List Visit) → A → List Visit} {Left : A → Type 0} {s₁ s₂ t₁ t₂ : List ℕ} {r₁ r₂ : ℕ} {d₀ d : Dates}
    (a : InValues A each Left s₁ s₂ t₁ t₂ r₁ r₂ d₀ d) where
  abbrev from : A → List Visit
  from = each (visits s₁ a.element)

  -- none is left
  all_judged : from a.rest ≡ [] → Judged s₁ s₂ t₁ t₂ r₁ r₂ nothing d₀ d
  all_judged q = conclude a.given (a.onward (rw q walks_none))

  abbrev next_turn : {here : ℕ} (w : Rowed s₁ t₁ here) (others : A) → from a.rest ≡ visits s₁ a.element w.tree ++ from others
      → Turn s₁ s₂ t₁ t₂ r₁ r₂ here d₀ d
  next_turn w others e = record {
    given = a.given;
    one = record { document = w; schema = a.inner.value; definition = a.element; defines = a.inner.defines };
    less = a.inner.less;
    others = from others;
    onward = λ {m} {d₂} u. a.onward (subst (λ (vs : List Visit). Walks s₁ vs m d d₂) (sym e) u);
  }

  -- the others are left
  moved : {Next : A → Type 0} (others : A) → Next others → {d₁ : Dates}
      → ((m : Judgement) (d₂ : Dates) → Walks s₁ (from others) m d₁ d₂ → Walks s₁ (judged a.given) m d₀ d₂)
      → InValues A each Next s₁ s₂ t₁ t₂ r₁ r₂ d₀ d₁
  moved others l e = record { given = a.given; element = a.element; inner = a.inner; rest = others; ahead = l; onward = λ {m} {d₂} w. e m d₂ w }

-- ---- the elements of an array

-- before the elements that are left
abbrev pub InArray : List ℕ → List ℕ → List ℕ → List ℕ → ℕ → ℕ → Children 0 → Dates → Dates → Type 0
InArray s₁ s₂ t₁ t₂ r₁ r₂ c d₀ d = InValues Nodes each_element (ItemsLeft s₁ t₁ c) s₁ s₂ t₁ t₂ r₁ r₂ d₀ d

module _ {s₁ s₂ t₁ t₂ : List ℕ} {r₁ r₂ : ℕ} (j : ArrayJudgeable s₁ s₂ t₁ t₂ r₁ r₂) {x y : Record} (p : Reads t₁ r₁ x) (q : Reads t₂ r₂ y)
    {m : Judgement} (u : m ≡ unless (eqb x.kind 7) x.first y.first) where
  pub array_other : {z : Mismatch} → m ≡ Err z → {d d₂ : Dates} → Judged s₁ s₂ t₁ t₂ r₁ r₂ (Err z) d d₂
  array_other e =
      let n = j.given.document.tree in
      wrong_kind j.given p q (array_kind n ∙ rw (kind_read j.given.document p)) (rw j.is) u e

  module _ {v : Unit {0}} (e : m ≡ Ok v) where
    pub array_is : word t₁ r₁ 0 ≡ 7
    array_is = sym p.kind ∙ eqb-true x.kind 7 (passed (eqb x.kind 7) x.first y.first u e)

    -- it is an array
    abbrev pub array_given : ArrayRow s₁ t₁ r₁
    array_given = as_array j.given.document array_is

    pub array_start : {c : Children 0} → Begins t₁ r₁ c → {d : Dates} → InArray s₁ s₂ t₁ t₂ r₁ r₂ c d d
    array_start b = record {
      given = j.given;
      element = j.element;
      inner = subst (Inside s₂ t₂ r₂) j.is (inside (defined j.given));
      rest = elements_in j.given.document.tree;
      ahead = items_start array_given b;
      onward = λ u. rw (ap₂ (visits s₁) j.is (array_row j.given.document array_is)) (walks_passes refl refl u);
    }

module _ {s₁ s₂ t₁ t₂ : List ℕ} {r₁ r₂ : ℕ} {c : Children 0} {d₀ d : Dates} (a : InArray s₁ s₂ t₁ t₂ r₁ r₂ c d₀ d) where
  pub array_end : c.left ≡ 0 → Judged s₁ s₂ t₁ t₂ r₁ r₂ nothing d₀ d
  array_end l = all_judged a (ap (from a) (items_end a.ahead l))

  module _ {here : ℕ} {next : Children 0} (p : Passes c here next) where
    abbrev pub array_turn : Turn s₁ s₂ t₁ t₂ r₁ r₂ here d₀ d
    array_turn = let x = item_here a.ahead p in next_turn a x.value x.others (ap (from a) x.is)

    pub array_next : {m : Judgement} {d₂ : Dates} → Judged s₁ s₂ t₁ t₂ here (r₂ + 2) m d d₂ → m ≡ nothing → InArray s₁ s₂ t₁ t₂ r₁ r₂ next d₀ d₂
    array_next h e =
        let x = item_here a.ahead p in
        moved a x.others (items_next a.ahead p x) (λ m d₂ w. turn_goes_on array_turn h e w)

-- ---- the members of an object

-- before the members that are left
abbrev pub InMap : List ℕ → List ℕ → List ℕ → List ℕ → ℕ → ℕ → Children 1 → Dates → Dates → Type 0
InMap s₁ s₂ t₁ t₂ r₁ r₂ c d₀ d = InValues Members each_member (NamesLeft s₁ t₁ c) s₁ s₂ t₁ t₂ r₁ r₂ d₀ d

module _ {s₁ s₂ t₁ t₂ : List ℕ} {r₁ r₂ : ℕ} (j : MapJudgeable s₁ s₂ t₁ t₂ r₁ r₂) {x y : Record} (p : Reads t₁ r₁ x) (q : Reads t₂ r₂ y)
    {m : Judgement} (u : m ≡ unless (eqb x.kind 8) x.first y.first) where
  pub map_other : {z : Mismatch} → m ≡ Err z → {d d₂ : Dates} → Judged s₁ s₂ t₁ t₂ r₁ r₂ (Err z) d d₂
  map_other e =
      let n = j.given.document.tree in
      wrong_kind j.given p q (object_kind n ∙ rw (kind_read j.given.document p)) (rw j.is) u e

  module _ {v : Unit {0}} (e : m ≡ Ok v) where
    pub map_is : word t₁ r₁ 0 ≡ 8
    map_is = sym p.kind ∙ eqb-true x.kind 8 (passed (eqb x.kind 8) x.first y.first u e)

    -- it is an object
    abbrev pub map_given : ObjectRow s₁ t₁ r₁
    map_given = as_object j.given.document map_is

    pub map_start : {c : Children 1} → Begins t₁ r₁ c → {d : Dates} → InMap s₁ s₂ t₁ t₂ r₁ r₂ c d d
    map_start b = record {
      given = j.given;
      element = j.element;
      inner = subst (Inside s₂ t₂ r₂) j.is (inside (defined j.given));
      rest = members_in j.given.document.tree;
      ahead = names_start map_given b;
      onward = λ u. rw (ap₂ (visits s₁) j.is (object_row j.given.document map_is)) (walks_passes refl refl u);
    }

module _ {s₁ s₂ t₁ t₂ : List ℕ} {r₁ r₂ : ℕ} {c : Children 1} {d₀ d : Dates} (a : InMap s₁ s₂ t₁ t₂ r₁ r₂ c d₀ d) where
  pub map_end : c.left ≡ 0 → Judged s₁ s₂ t₁ t₂ r₁ r₂ nothing d₀ d
  map_end l = all_judged a (ap (from a) (names_end a.ahead l))

  module _ {here : ℕ} {next : Children 1} (p : Passes c here next) where
    abbrev pub map_turn : Turn s₁ s₂ t₁ t₂ r₁ r₂ (here + 1) d₀ d
    map_turn = let x = name_here a.ahead p in next_turn a x.value x.others (ap (from a) x.is)

    pub map_next : {m : Judgement} {d₂ : Dates} → Judged s₁ s₂ t₁ t₂ (here + 1) (r₂ + 2) m d d₂ → m ≡ nothing → InMap s₁ s₂ t₁ t₂ r₁ r₂ next d₀ d₂
    map_next h e =
        let x = name_here a.ahead p in
        moved a x.others (names_next a.ahead p x) (λ m d₂ w. turn_goes_on map_turn h e w)
