-- Steps from the top of a text down to a value: where they lead in the table and in the list of rows, and how much is written for them.
use Prim.Native.Nat.{ℕ, ◌+◌, ◌-◌, ◌*◌, ◌≤◌, ◌<◌}
use mathlib.Core.Path.{◌≡◌, refl, sym, ap, ◌∙◌}
use mathlib.Core.List.{List, [], ◌∷◌, ◌++◌, append_assoc}
use native.Mathlib.Omega.{arith}
use lib.ListN.{length, length-append, get_or, take, drop}
use lib.Seq.{get_or_at, take-length, length-take-le}
use Rattle.std.proofs.lemmas.List.{get_or-drop, get_or-take, take-take}
use Rattle.chars.specs.Strings.{part}
use Rattle.syntax.specs.Tree.{Node, scalar, array, object, Nodes, none, more, Members, no_member, member}
use Rattle.syntax.specs.Rows.{size}
use Rattle.syntax.specs.Holding.{Holds, HoldsAll, HoldsMembers, Placed, PlacedAll, PlacedMembers}
use Rattle.syntax.proofs.Facts.{size_pos}
use Rattle.explain.specs.Writing.{Puts, ElementAt, element_first, element_later, MemberAt, member_first, member_later, StepTo, to_element, to_member}
use Rattle.explain.specs.Writing.{StepRow, TokenReady, TokenPut}
use Rattle.explain.proofs.pieces.Buffers.{puts_none, puts_append, puts_as}
use Rattle.explain.proofs.pieces.Decimals.{decimal_few}
use Rattle.explain.proofs.pieces.Names.{name_short}
use Rattle.explain.proofs.pointers.Elements.{element_ahead}
use Rattle.explain.proofs.pointers.Steps.{part_short}

-- ---- one step

module _ (t : List ℕ) where
  element_holds : {i r j c : ℕ} {m : Node} (ns : Nodes) → HoldsAll t r ns → ElementAt i r ns j c m → Holds t c m
  element_holds none h a = elim a [ ]
  element_holds (more n ns) h element_first = h.0
  element_holds {i} {r} (more n ns) h (element_later a) = element_holds {i = i + 1} {r = r + size n} ns h.1 a

  member_holds : {r g k c : ℕ} {m : Node} (ms : Members) → HoldsMembers t r ms → MemberAt r ms g k c m → Holds t c m
  member_holds no_member h a = elim a [ ]
  member_holds (member f e n ms) h member_first = h.1
  member_holds {r} (member f e n ms) h (member_later a) = member_holds {r = r + 1 + size n} ms h.2 a

  pub step_holds : {s : List ℕ} {r c : ℕ} {m : Node} {w : List ℕ} (n : Node) → Holds t r n → StepTo s r n c m w → Holds t c m
  step_holds (scalar k f e) h a = elim a [ ]
  step_holds (array f e ns) h (to_element a) = element_holds ns h.1 a
  step_holds (object f e ms) h (to_member a) = member_holds ms h.1 a

module _ (s : List ℕ) where
  element_placed : {i r j c : ℕ} {m : Node} (ns : Nodes) → PlacedAll s ns → ElementAt i r ns j c m → Placed s m
  element_placed none p a = elim a [ ]
  element_placed (more n ns) p element_first = p.0
  element_placed {i} {r} (more n ns) p (element_later a) = element_placed {i = i + 1} {r = r + size n} ns p.1 a

  member_placed : {r g k c : ℕ} {m : Node} (ms : Members) → PlacedMembers s ms → MemberAt r ms g k c m → Placed s m
  member_placed no_member p a = elim a [ ]
  member_placed (member f e n ms) p member_first = p.1
  member_placed {r} (member f e n ms) p (member_later a) = member_placed {r = r + 1 + size n} ms p.2 a

  pub step_placed : {r c : ℕ} {m : Node} {w : List ℕ} (n : Node) → Placed s n → StepTo s r n c m w → Placed s m
  step_placed (scalar k f e) p a = elim a [ ]
  step_placed (array f e ns) p (to_element a) = element_placed ns p.2 a
  step_placed (object f e ms) p (to_member a) = member_placed ms p.2 a

member_ahead : {r g k c : ℕ} {m : Node} {ms : Members} → MemberAt r ms g k c m → r ≤ c
member_ahead member_first = omega arith
member_ahead (member_later a) = omega (arith, member_ahead a)

-- an index is no more than the row
element_few : {i r j c : ℕ} {m : Node} {ns : Nodes} → ElementAt i r ns j c m → j + r ≤ c + i
element_few element_first = omega arith
element_few {ns = more n ns} (element_later a) = omega (arith, element_few a, size_pos n)

-- it leads to a greater row
pub step_ahead : {s : List ℕ} {r c : ℕ} {n m : Node} {w : List ℕ} → StepTo s r n c m w → r < c
step_ahead (to_element a) = omega (arith, element_ahead a)
step_ahead (to_member a) = omega (arith, member_ahead a)

-- its token is a slash and at most four bytes for each of a name, or at most twenty digits
abbrev longest : ℕ
longest = 0x40001

pub step_short : {s : List ℕ} {r c : ℕ} {n m : Node} {w : List ℕ} → StepTo s r n c m w → length s ≤ 65536 → c < 0x10000000000000000 → length w ≤ longest
step_short (to_element {j = j} a) l b = omega (arith, decimal_few j (omega (arith, element_few a)))
step_short {s} (to_member {g = g} {h = h} a) l b = omega (arith, name_short (part s (g + 1) (h - 1)), part_short s (g + 1) (h - 1))

-- ---- a chain of steps

-- from the value at row r, around which stand those of the rows `around`, steps lead to one with the rows `rows`, its own and those around it; `before` is
-- the pointer of the first, w that of the last
pub data Chain (s : List ℕ) : ℕ → Node → List ℕ → List ℕ → List ℕ → List ℕ → Type 0 where
  here : {r : ℕ} {n : Node} {around before : List ℕ} → Chain s r n around (r ∷ around) before before
  inside : {r c : ℕ} {n m : Node} {around rows before token w : List ℕ} → StepTo s r n c m token → Chain s c m (r ∷ around) rows (before ++ token) w
      → Chain s r n around rows before w

-- these are the rows of the steps, from the last to the first, before r and those around it
chain_front : {s : List ℕ} {r : ℕ} {n : Node} {around rows before w : List ℕ} → Chain s r n around rows before w
    → (front : List ℕ) × (rows ≡ front ++ (r ∷ around))
chain_front here = ([], refl)
chain_front {r = r} {around = around} (inside {c = c} step chain) =
    let f = chain_front chain in
    (f.0 ++ (c ∷ []), f.1 ∙ sym (append_assoc f.0 (c ∷ []) (r ∷ around)))

-- at i of the rows stands r, where the first steps are behind it
module _ {s : List ℕ} {r : ℕ} {n : Node} {around rows before w : List ℕ} (chain : Chain s r n around rows before w) where
  chain_length : let f = chain_front chain in length rows ≡ length f.0 + 1 + length around
  chain_length = let f = chain_front chain in omega (arith, ap length f.1, length-append f.0 (r ∷ around))

  pub chain_long : length around < length rows
  chain_long = omega (arith, chain_length)

  pub chain_at : (i : ℕ) → i + 1 + length around ≡ length rows → get_or rows i 0 ≡ r
  chain_at i e =
      let f = chain_front chain in
      ap (λ (l : List ℕ). get_or l i 0) f.1 ∙ get_or_at f.0 r around 0 i (omega (arith, chain_length))

-- no step is left
pub chain_end : {s : List ℕ} {r : ℕ} {n : Node} {around rows before w : List ℕ} → Chain s r n around rows before w
    → 1 + length around ≡ length rows → w ≡ before
chain_end here e = refl
chain_end (inside step chain) e = absurd (omega (arith, chain_long chain))

-- the next step, to row c
pub record Below (s : List ℕ) (r : ℕ) (n : Node) (around rows before w : List ℕ) (c : ℕ) : Type 0 where
  pub value : Node
  pub token : List ℕ
  pub step : StepTo s r n c value token
  pub chain : Chain s c value (r ∷ around) rows (before ++ token) w

pub chain_more : {s : List ℕ} {r : ℕ} {n : Node} {around rows before w : List ℕ} → Chain s r n around rows before w
    → (i : ℕ) → 0 < i → i + 1 + length around ≡ length rows → Below s r n around rows before w (get_or rows (i - 1) 0)
chain_more here i l e = absurd (omega arith)
chain_more {s} {r} {n} {around} {rows} {before} {w} (inside {c = c} {m = m} {token = token} step chain) i l e =
    let q : c ≡ get_or rows (i - 1) 0 = sym (chain_at chain (i - 1) (omega arith)) in
    let d : Below s r n around rows before w c = record { value = m; token = token; step = step; chain = chain } in
    rw q at d

-- ---- down to place i of the rows: what is told so far is in the buffer, which held `before`

pub record Walked (s t path w before : List ℕ) (i at : ℕ) (out : List ℕ) : Type 0 where
  pub tree : Node
  pub around : List ℕ
  pub done : List ℕ
  pub holds : Holds t (get_or path i 0) tree
  pub placed : Placed s tree
  pub chain : Chain s (get_or path i 0) tree around path done w
  pub place : i + 1 + length around ≡ length path
  pub deep : length around ≤ get_or path i 0
  pub puts : Puts done 0 at before out
  pub few : at ≤ longest * length around

-- a list of rows for which there is a chain from the top
pub record Chained (s t path : List ℕ) : Type 0 where
  pub tree : Node
  pub holds : Holds t 0 tree
  pub placed : Placed s tree
  pub short : length s ≤ 65536
  pub bytes : List ℕ
  pub chain : Chain s 0 tree [] path [] bytes

-- at the top
pub walked_start : {s t path : List ℕ} (d : Chained s t path) (out : List ℕ) → Walked s t path d.bytes out (length path - 1) 0 out
walked_start {s} {t} {path} d out =
    let e : length path - 1 + 1 + 0 ≡ length path = omega (arith, chain_long d.chain) in
    let q : get_or path (length path - 1) 0 ≡ 0 = chain_at d.chain (length path - 1) e in
    record {
      tree = d.tree;
      around = [];
      done = [];
      holds = rw q d.holds;
      placed = d.placed;
      chain = rw q d.chain;
      place = e;
      deep = omega arith;
      puts = puts_none 0 out;
      few = omega arith;
    }

module _ {s t path w before : List ℕ} {i at : ℕ} {out : List ℕ} (g : Walked s t path w before i at out) where
  -- nothing is left
  pub walked_end : i ≤ 0 → Puts w 0 at before out
  walked_end l = puts_as (chain_end g.chain (omega (arith, g.place))) g.puts

  module _ (l : 0 < i) where
    pub below : Below s (get_or path i 0) g.tree g.around path g.done w (get_or path (i - 1) 0)
    below = chain_more g.chain i l g.place

    abbrev pub walked_step : StepRow s t (get_or path i 0) (get_or path (i - 1) 0)
    walked_step = record {
      around = record { tree = g.tree; holds = g.holds; placed = g.placed };
      value = below.value;
      token = below.token;
      is = below.step;
    }

    pub walked_ready : length s ≤ 65536 → get_or path i 0 < 0x100000000 → TokenReady s t (get_or path i 0) (get_or path (i - 1) 0) at
    walked_ready h b = record { step = walked_step; short = h; place = omega (arith, g.few, g.deep) }

    pub walked_next : length s ≤ 65536 → get_or path (i - 1) 0 < 0x100000000 → {k : ℕ} {out₂ : List ℕ}
        → TokenPut s t (get_or path i 0) (get_or path (i - 1) 0) at k out out₂ → Walked s t path w before (i - 1) k out₂
    walked_next h b p =
        let u = p.tells walked_step in
        record {
          tree = below.value;
          around = get_or path i 0 ∷ g.around;
          done = g.done ++ below.token;
          holds = step_holds t g.tree g.holds below.step;
          placed = step_placed s g.tree g.placed below.step;
          chain = below.chain;
          place = omega (arith, g.place);
          deep = omega (arith, g.deep, step_ahead below.step);
          puts = puts_append g.puts u;
          few = omega (arith, g.few, u.next, step_short below.step h (omega arith));
        }

-- ---- the same, where `rest` are the rows that are left

pub record Downwards (s t path w before rest : List ℕ) (at : ℕ) (out : List ℕ) : Type 0 where
  pub some : 0 < length rest
  pub is : rest ≡ take (length rest) path
  pub walked : Walked s t path w before (length rest - 1) at out

pub downwards_start : {s t path : List ℕ} (d : Chained s t path) (out : List ℕ) → Downwards s t path d.bytes out path 0 out
downwards_start {path = path} d out =
    record { some = omega (arith, chain_long d.chain); is = sym (take-length path); walked = walked_start d out }

module _ {s t path w before rest : List ℕ} {at : ℕ} {out : List ℕ} (g : Downwards s t path w before rest at out) where
  pub downwards_end : length rest < 2 → Puts w 0 at before out
  downwards_end l = walked_end g.walked (omega arith)

  -- the last two of them are the next step
  module _ (l : 2 ≤ length rest) {pair : List ℕ} (e : pair ≡ drop (length rest - 2) rest) (h : length s ≤ 65536)
      (b : (i : ℕ) → get_or path i 0 < 0x100000000) where
    pair_at : (k : ℕ) → k < 2 → get_or pair k 0 ≡ get_or path (length rest - 2 + k) 0
    pair_at k m =
        ap (λ (p : List ℕ). get_or p k 0) e
        ∙ get_or-drop (length rest - 2) rest k 0
        ∙ ap (λ (p : List ℕ). get_or p (length rest - 2 + k) 0) g.is
        ∙ get_or-take (length rest) path (length rest - 2 + k) 0 (omega arith)

    parent_is : get_or pair 1 0 ≡ get_or path (length rest - 1) 0
    parent_is = let z : length rest - 2 + 1 ≡ length rest - 1 = omega arith in pair_at 1 (omega arith) ∙ ap (λ (i : ℕ). get_or path i 0) z

    child_is : get_or pair 0 0 ≡ get_or path (length rest - 1 - 1) 0
    child_is = let z : length rest - 2 + 0 ≡ length rest - 1 - 1 = omega arith in pair_at 0 (omega arith) ∙ ap (λ (i : ℕ). get_or path i 0) z

    pub downwards_ready : TokenReady s t (get_or pair 1 0) (get_or pair 0 0) at
    downwards_ready = rw (parent_is, child_is) (walked_ready g.walked (omega arith) h (b (length rest - 1)))

    pub downwards_next : {k : ℕ} {out₂ : List ℕ} → TokenPut s t (get_or pair 1 0) (get_or pair 0 0) at k out out₂
        → {rest₂ : List ℕ} → rest₂ ≡ take (length rest - 1) rest → Downwards s t path w before rest₂ k out₂
    downwards_next {k} {out₂} p {rest₂} q =
        let n : length rest₂ ≡ length rest - 1 = ap length q ∙ length-take-le (length rest - 1) rest (omega arith) in
        let u : TokenPut s t (get_or path (length rest - 1) 0) (get_or path (length rest - 1 - 1) 0) at k out out₂ = rw (parent_is, child_is) at p in
        let v : rest₂ ≡ take (length rest - 1) path =
        q ∙ ap (λ (r : List ℕ). take (length rest - 1) r) g.is ∙ take-take (length rest - 1) (length rest) path (omega arith) in
        record {
          some = omega (arith, n);
          is = rw n v;
          walked = rw n (walked_next g.walked (omega arith) h (b (length rest - 1 - 1)) u);
        }
