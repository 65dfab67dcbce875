-- The first name that two objects share: the invariant of `first_shared`, and one law for each way out (01, "Definitions").
use Prim.Native.Nat.{ℕ, ◌+◌, ◌-◌}
use mathlib.Core.Path.{◌≡◌, refl, sym, ap, ◌∙◌}
use mathlib.Core.Bool.{Bool, true, false, cond, ◌||◌}
use mathlib.Core.List.{List}
use Rattle.std.specs.Prelude.{Option, Some, None, Ok, Err}
use Rattle.model.specs.Text.{same}
use Rattle.chars.specs.Strings.{characters, part}
use Rattle.syntax.specs.Tree.{Members, no_member, member}
use Rattle.syntax.specs.Grammar.{name_of}
use Rattle.definitions.specs.Definitions.{has_named, shared_at, shared_fault, fault, Shares}
use Rattle.rows.specs.Records.{Reads, ObjectRow, PartRow}
use Rattle.rows.specs.Children.{Passes, Begins}
use Rattle.rows.specs.declared.children.Children.{Children}
use Rattle.rows.specs.declared.records.Record.{Record}
use Rattle.definitions.specs.declared.definitions.FaultCode.TheVariants.{SharedName}
use Rattle.rows.proofs.Facts.{same_members, part_object, MemberHere, member_read, NamesLeft, names_start, name_here, names_next, names_end}

-- ---- whether a member of the object at row q has a name: none before those that are left

pub record Has (s t : List ℕ) (q : ℕ) (key : List ℕ) (b : Bool) : Type 0 where
  pub tells : (o : ObjectRow s t q) → has_named s key o.members ≡ b

pub record Searching (s t : List ℕ) (q : ℕ) (key : List ℕ) (c : Children 1) : Type 0 where
  pub rest : Members
  pub ahead : NamesLeft s t c rest
  pub stays : (o : ObjectRow s t q) → has_named s key o.members ≡ has_named s key rest

module _ {s t : List ℕ} {q : ℕ} {key : List ℕ} {c : Children 1} where
  pub search_start : (o : ObjectRow s t q) → Begins t q c → Searching s t q key c
  search_start o b = record { rest = o.members; ahead = names_start o b; stays = λ p. ap (has_named s key) (same_members p o) }

  module _ (a : Searching s t q key c) where
    pub none_has : c.left ≡ 0 → Has s t q key false
    none_has l = record { tells = λ o. a.stays o ∙ ap (has_named s key) (names_end a.ahead l) }

    module _ {n : ℕ} {d : Children 1} (h : Passes c n d) where
      pub other_name : MemberHere s t n a.rest
      other_name = name_here a.ahead h

      -- its name was read, the bytes k between its quotes, and b says whether it is the key
      module _ {x : Record} (p : Reads t n x) {k : List ℕ} (e : k ≡ part s (x.first + 1) (x.end - 1)) {b : Bool} (h' : b ≡ same key (characters k)) where
        has_splits : (v : Bool) → b ≡ v → has_named s key a.rest ≡ (v || has_named s key other_name.others)
        has_splits v i =
            let z : same key (name_of s x.first x.end) ≡ v = sym (h' ∙ ap (λ (k : List ℕ). same key (characters k)) e) ∙ i in
            ap (has_named s key) (member_read other_name p) ∙ rw z

        pub one_has : b ≡ true → Has s t q key true
        one_has i = record { tells = λ o. a.stays o ∙ has_splits true i }

        pub search_next : b ≡ false → Searching s t q key d
        search_next i = record { rest = other_name.others; ahead = names_next a.ahead h other_name; stays = λ o. a.stays o ∙ has_splits false i }

-- ---- the optional members

empty_shares : (s : List ℕ) (ms : Members) → shared_at s no_member ms ≡ None
empty_shares s no_member = refl
empty_shares s (member f e n ms) = empty_shares s ms

pub no_required : {s t : List ℕ} {q : Option ℕ} → Shares s t None q (Ok tt)
no_required {s} = record { tells = λ r o. sym (ap shared_fault (ap (λ (ms : Members). shared_at s ms o.members) (r.absent refl) ∙ empty_shares s o.members)) }

pub no_optional : {s t : List ℕ} {q : Option ℕ} → Shares s t q None (Ok tt)
no_optional {s} = record { tells = λ r o. sym (ap (λ (ms : Members). shared_fault (shared_at s r.members ms)) (o.absent refl)) }

-- no name of the object at row p before those that are left is one of the object at row q
pub record Comparing (s t : List ℕ) (q p : ℕ) (c : Children 1) : Type 0 where
  pub required : ObjectRow s t q
  pub rest : Members
  pub ahead : NamesLeft s t c rest
  pub stays : (o : ObjectRow s t p) → shared_at s required.members o.members ≡ shared_at s required.members rest

module _ {s t : List ℕ} {q p : ℕ} {c : Children 1} where
  pub compare_start : PartRow s t (Some q) → (o : PartRow s t (Some p)) → Begins t p c → Comparing s t q p c
  compare_start r o b =
      let i = part_object r refl in
      let j = part_object o refl in
      record { required = i; rest = j.members; ahead = names_start j b; stays = λ k. ap (shared_at s i.members) (same_members k j) }

  module _ (a : Comparing s t q p c) where
    shares : {x : Option ℕ} → shared_at s a.required.members a.rest ≡ x → Shares s t (Some q) (Some p) (shared_fault x)
    shares e = record {
      tells = λ r o.
          (let i = part_object r refl in
          let j = part_object o refl in
          sym (ap shared_fault (ap (λ (ms : Members). shared_at s ms j.members) (same_members i a.required) ∙ a.stays j ∙ e)));
    }

    pub compare_end : c.left ≡ 0 → Shares s t (Some q) (Some p) (Ok tt)
    compare_end l = shares (ap (shared_at s a.required.members) (names_end a.ahead l))

    module _ {n : ℕ} {d : Children 1} (h : Passes c n d) where
      pub candidate : MemberHere s t n a.rest
      candidate = name_here a.ahead h

      -- its name was read, the bytes k between its quotes
      module _ {x : Record} (i : Reads t n x) {k : List ℕ} (e : k ≡ part s (x.first + 1) (x.end - 1)) where
        splits : {b : Bool} → Has s t q (characters k) b
            → shared_at s a.required.members a.rest ≡ cond b (Some x.first) (shared_at s a.required.members candidate.others)
        splits f = ap (shared_at s a.required.members) (member_read candidate i) ∙ rw (sym (ap characters e), f.tells a.required)

        pub shared : Has s t q (characters k) true → Shares s t (Some q) (Some p) (Err (fault SharedName x.first))
        shared f = shares (splits f)

        pub compare_next : Has s t q (characters k) false → Comparing s t q p d
        compare_next f = record { required = a.required; rest = candidate.others; ahead = names_next a.ahead h candidate; stays = λ o. a.stays o ∙ splits f }
