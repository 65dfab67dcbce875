-- The first fault of the body of an Object: one law for each way out of `define_body` (01, "Definitions"). First what stands under "required" and "optional".
use Prim.Native.Nat.{ℕ, ◌<◌}
use mathlib.Core.Path.{◌≡◌, refl, sym, ap, ◌∙◌}
use mathlib.Core.Bool.{Bool, true, false, cond}
use Rattle.std.specs.Prelude.{eqb, Option, Some, None, Result, Ok, Err}
use mathlib.Core.List.{List}
use native.Mathlib.Omega.{arith}
use borrow.Author.Tests.{eqb-true}
use Rattle.chars.specs.Strings.{characters}
use Rattle.model.specs.Text.{text, same}
use Rattle.model.proofs.Basics.{never, both}
use Rattle.syntax.specs.Tree.{Node, Members, no_member, member}
use Rattle.syntax.specs.Grammar.{name_of}
use Rattle.syntax.specs.Rows.{size, sizes_members}
use Rattle.syntax.specs.Holding.{word}
use Rattle.definitions.specs.Definitions.{LocatedFields, no_field, Defined, fine, shared_at, Part, wrong, members_with}
use Rattle.definitions.specs.Definitions.{both_fields, joined_at, body_at, part_at, part_of, fields_at, fault, fault_of, shared_fault, kind_fault}
use Rattle.definitions.specs.Definitions.{PartUnder, DefinesBody, DefinesFields, Shares}
use Rattle.rows.specs.Finding.{lookup, Finds}
use Rattle.rows.specs.Records.{Rowed, ObjectRow, PartRow}
use Rattle.definitions.specs.declared.definitions.FaultCode.TheVariants.{NoDefinition}
use Rattle.definitions.specs.declared.definitions.Fault.{Fault}
use Rattle.rows.proofs.Facts.{row, object_row, same_tree, as_row, as_object, found, not_found}
use Rattle.definitions.proofs.types.Laws.{spelled}
use Rattle.definitions.proofs.definitions.OtherKinds.{no_body, no_part}
use Rattle.definitions.proofs.definitions.Laws.{first_fault, fault_both, fault_unshared}

-- ---- what stands under a name

-- the part of the body under a name, by what was looked up
abbrev pub part_under : List ℕ → Option Node → Part
part_under s None = members_with no_member (fine no_field)
part_under s (Some n) = part_of s n

pub part_lookup : (s k : List ℕ) (ms : Members) → part_at s k ms ≡ part_under s (lookup s k ms)
part_lookup s k no_member = refl
part_lookup s k (member f e n ms) = choose (same k (name_of s f e)) (part_lookup s k ms)
  where
    choose : (b : Bool) → part_at s k ms ≡ part_under s (lookup s k ms) → cond b (part_of s n) (part_at s k ms) ≡ part_under s (cond b (Some n) (lookup s k ms))
    choose true h = refl
    choose false h = h

-- it lies within the members
pub lookup_less : (s k : List ℕ) (ms : Members) (n : Node) → lookup s k ms ≡ Some n → size n < sizes_members ms
lookup_less s k no_member n q = never (cc)
lookup_less s k (member f e m ms) n q =
    both (λ (x : Option Node). x ≡ Some n → size n < sizes_members (member f e m ms)) (same k (name_of s f e))
    (λ _ h. (let x : m ≡ n = cc in omega (arith, ap size x)))
    (λ _ h. omega (arith, lookup_less s k ms n h)) q

-- the rows of the members under "required" or "optional", by the row of their object, where there is one
abbrev pub part_rows : List ℕ → Option ℕ → ℕ
part_rows t None = 0
part_rows t (Some r) = word t r 4

-- members at row v, or none, within the object at row r
pub record HasPart (s t : List ℕ) (r : ℕ) (v : Option ℕ) (x : Part) : Type 0 where
  pub at : PartRow s t v
  pub is : x ≡ members_with at.members (fields_at s at.members)
  pub less : part_rows t v < word t r 4

module _ {s t key : List ℕ} {r : ℕ} (o : ObjectRow s t r) where
  -- what was found for a name
  pub part_found : {v : ℕ} (f : Finds s t r key (Some v)) → part_at s key o.members ≡ part_of s (found o f).value.tree
  part_found f = part_lookup s key o.members ∙ ap (part_under s) (found o f).is

  pub found_less : (v : Option ℕ) → Finds s t r key v → part_rows t v < word t r 4
  found_less None f = omega (arith, (row (as_row o)).subtree)
  found_less (Some v) f =
      let w = found o f in
      omega (arith, (row w.value).subtree, (row (as_row o)).subtree, lookup_less s key o.members w.value.tree w.is)

  pub has_part : (v : Option ℕ) → Finds s t r key v → ((w : ℕ) → v ≡ Some w → word t w 0 ≡ 8) → HasPart s t r v (part_at s key o.members)
  has_part None f h = record {
    at = record { members = no_member; absent = λ _. refl; present = λ e. never (cc) };
    is = part_lookup s key o.members ∙ ap (part_under s) (not_found o f);
    less = found_less None f;
  }
  has_part (Some v) f h =
      let w = (found o f).value in
      let p = as_object w (h v refl) in
      record {
        at = record { members = p.members; absent = λ e. never (cc); present = λ {o = u} e. (let i : v ≡ u = cc in rw (← i) (p.first, p.end, p.holds, p.placed)) };
        is = part_found f ∙ ap (part_of s) (object_row w (h v refl));
        less = found_less (Some v) f;
      }

-- ---- kinds

-- the value at a row is an object, or its fault is told
kind_told : (b : Bool) (x : Fault) {f : Fault} → cond {A = Result (Unit {0}) Fault} b (Ok tt) (Err x) ≡ Err f → (b ≡ false) × (f ≡ x)
kind_told true x q = never (cc)
kind_told false x q = (refl, cc)

kind_tested : (b : Bool) (x : Fault) {u : Unit {0}} → cond {A = Result (Unit {0}) Fault} b (Ok tt) (Err x) ≡ Ok u → b ≡ true
kind_tested true x q = refl
kind_tested false x q = never (cc)

is_object : (t : List ℕ) (r : ℕ) {u : Unit {0}} → kind_fault t r ≡ Ok u → word t r 0 ≡ 8
is_object t r q = eqb-true (word t r 0) 8 (kind_tested (eqb (word t r 0) 8) (fault NoDefinition (word t r 1)) q)

pub body_object : {s t : List ℕ} {r : ℕ} (w : Rowed s t r) {x : Result (Unit {0}) Fault} → x ≡ kind_fault t r → {u : Unit {0}} → x ≡ Ok u → ObjectRow s t r
body_object {t = t} {r = r} w q e = as_object w (is_object t r (sym q ∙ e))

module _ (t : List ℕ) (r : ℕ) {f : Fault} (q : kind_fault t r ≡ Err f) where
  told : (eqb (word t r 0) 8 ≡ false) × (f ≡ fault NoDefinition (word t r 1))
  told = kind_told (eqb (word t r 0) 8) (fault NoDefinition (word t r 1)) q

  other_kind : word t r 0 ≡ 8 → ⊥
  other_kind e = let z : eqb (word t r 0) 8 ≡ true = rw e in let y = told.0 in never (cc)

  -- so it is no body, and no part
  pub body_other : {s : List ℕ} → DefinesBody s t r (Err f)
  body_other {s} = record {
    tells = λ w p.
        rw (told.1, (row w).first) (sym (ap fault_of (no_body s p w.tree (λ e. other_kind ((row w).kind ∙ e)))));
  }

  pub part_other : {s key : List ℕ} {o : ℕ} → Finds s t o key (Some r) → PartUnder s t o key (Err f)
  part_other {s} h = record {
    finds = λ e. never (cc);
    object = λ e. never (cc);
    other = λ {f = g} e o.
        (let w = (found o h).value in
        let i : f ≡ g = cc in
        let z = part_found o h ∙ no_part s w.tree (λ e. other_kind ((row w).kind ∙ e)) ∙ ap wrong (sym (row w).first) in
        rw (← i, told.1) (refl, z));
  }

-- ---- the ways out

body_defined : {s t : List ℕ} {r : ℕ} {g : Result (Unit {0}) Fault} (o : ObjectRow s t r)
    → ((p : ℕ) → g ≡ fault_of (joined_at s p (part_at s (text "required") o.members) (part_at s (text "optional") o.members))) → DefinesBody s t r g
body_defined {s} o q = record { tells = λ w p. q p ∙ ap (λ (n : Node). fault_of (body_at s p n)) (same_tree (as_row o) w) }

-- "kind of "required"; kind of "optional"; shared names; [..]"
module _ {s t : List ℕ} {r : ℕ} (o : ObjectRow s t r) {x : Result (Option ℕ) Fault} where
  module _ (h : PartUnder s t r (characters (text "required")) x) where
    pub required_other : {f : Fault} → x ≡ Err f → DefinesBody s t r (Err f)
    required_other e = let z = (rw spelled.required at h).other e o in body_defined o (λ p. rw (z.0, z.1))

    pub required_part : (v : Option ℕ) → x ≡ Ok v → HasPart s t r v (part_at s (text "required") o.members)
    required_part v e = let k = rw spelled.required at h in has_part o v (k.finds e) (λ w i. k.object (e ∙ ap (λ (u : Option ℕ). Ok u) i))

  module _ (h : PartUnder s t r (characters (text "optional")) x) where
    pub optional_other : {v : Option ℕ} → HasPart s t r v (part_at s (text "required") o.members) → {f : Fault} → x ≡ Err f → DefinesBody s t r (Err f)
    optional_other a e = let z = (rw spelled.optional at h).other e o in body_defined o (λ p. rw (a.is, z.0, z.1))

    pub optional_part : (v : Option ℕ) → x ≡ Ok v → HasPart s t r v (part_at s (text "optional") o.members)
    optional_part v e = let k = rw spelled.optional at h in has_part o v (k.finds e) (λ w i. k.object (e ∙ ap (λ (u : Option ℕ). Ok u) i))

-- the parts of a body, both members or none
pub record Parts (s t : List ℕ) (r : ℕ) (required optional : Option ℕ) : Type 0 where
  pub whole : ObjectRow s t r
  pub first : HasPart s t r required (part_at s (text "required") whole.members)
  pub second : HasPart s t r optional (part_at s (text "optional") whole.members)

module _ {s t : List ℕ} {r : ℕ} {required optional : Option ℕ} (b : Parts s t r required optional) where
  abbrev shared : Option ℕ
  shared = shared_at s b.first.at.members b.second.at.members

  abbrev firsts : Defined LocatedFields
  firsts = fields_at s b.first.at.members

  abbrev seconds : Defined LocatedFields
  seconds = fields_at s b.second.at.members

  -- the first fault of the three
  parts_defined : {g : Result (Unit {0}) Fault} → g ≡ first_fault (shared_fault shared) (first_fault (fault_of firsts) (fault_of seconds)) → DefinesBody s t r g
  parts_defined q =
      body_defined b.whole (λ p.
      q ∙ rw (b.first.is, b.second.is) (sym (fault_unshared shared (both_fields p firsts seconds) ∙ ap (first_fault (shared_fault shared)) (fault_both p firsts seconds))))

  module _ {x : Result (Unit {0}) Fault} (h : Shares s t required optional x) where
    pub shared_stops : {f : Fault} → x ≡ Err f → DefinesBody s t r (Err f)
    shared_stops e = parts_defined (rw (sym (h.tells b.first.at b.second.at) ∙ e))

    module _ (e : x ≡ Ok tt) {y : Result (Unit {0}) Fault} (k : DefinesFields s t required y) where
      pub required_stops : {f : Fault} → y ≡ Err f → DefinesBody s t r (Err f)
      required_stops i = parts_defined (rw (sym (h.tells b.first.at b.second.at) ∙ e, sym (k.tells b.first.at) ∙ i))

      pub body_end : y ≡ Ok tt → {z : Result (Unit {0}) Fault} → DefinesFields s t optional z → DefinesBody s t r z
      body_end i l = parts_defined (rw (sym (h.tells b.first.at b.second.at) ∙ e, sym (k.tells b.first.at) ∙ i) (l.tells b.second.at))
