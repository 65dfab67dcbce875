-- For private contracts: the decision of Compare on definitions. That it is right is `proofs/Theorem.antt`,
-- which speaks of values (01, demand 3; 01's term is carried).
use Rattle.std.specs.Prelude.{ℕ, Bool, true, false, cond, ◌&&◌, ◌||◌, List}
use Rattle.model.specs.Text.{same}
use Rattle.model.specs.Definition.{Named, Named-discrete, JSON, Float, Integer, String, DateTime, Def, named, array_of, map_of}
use Rattle.model.specs.Definition.{object-of, Fields, fnil, fcons, has_field}

abbrev pub is_yes : {A : Type 0} → Dec A → Bool
is_yes (yes a) = true
is_yes (no f) = false

abbrev pub is : Named → Named → Bool
is s t = is_yes (Named-discrete s t)

-- the new type is the old one, or the old one takes more
abbrev pub subtype_named : Named → Named → Bool
subtype_named s t = is t JSON || is s t || (is s Integer && is t Float) || (is s DateTime && is t String)

-- the definition under the name n; otherwise the one given
abbrev pub field_or : Def → List ℕ → Fields → Def
field_or e n fnil = e
field_or e n (fcons m d fs) = cond (same n m) d (field_or e n fs)

-- only objects meet the definition
abbrev pub of_objects : Def → Bool
of_objects (named t) = false
of_objects (array_of d) = false
of_objects (map_of d) = true
of_objects (object-of r o) = true

-- what such a definition asks of a value under a name that it does not name
abbrev pub other : Def → Def
other (named t) = named JSON
other (array_of d) = named JSON
other (map_of d) = d
other (object-of r o) = named JSON

-- what it asks of a value under the name n
abbrev pub under : Def → List ℕ → Def
under (named t) n = named JSON
under (array_of d) n = named JSON
under (map_of d) n = d
under (object-of r o) n = field_or (field_or (named JSON) n o) n r

-- whether it asks for the name n
abbrev pub requires : Def → List ℕ → Bool
requires (named t) n = false
requires (array_of d) n = false
requires (map_of d) n = false
requires (object-of r o) n = has_field n r

-- it asks for each name of the fields
abbrev pub requires_all : Def → Fields → Bool
requires_all a fnil = true
requires_all a (fcons n d fs) = requires a n && requires_all a fs

-- every value that meets the new definition, the first, meets the old one
abbrev mutual
  pub subtype : Def → Def → Bool
  subtype a (named t) = elim a [ named s ↦ subtype_named s t | array_of p ↦ is t JSON | map_of p ↦ is t JSON | object-of r o ↦ is t JSON ]
  subtype a (array_of q) = elim a [ named s ↦ false | array_of p ↦ subtype p q | map_of p ↦ false | object-of r o ↦ false ]
  subtype a (map_of q) = of_objects a && subtype (other a) q
  subtype a (object-of r o) = of_objects a && (requires_all a r && (subtype_fields a r && subtype_fields a o))

  -- so under each name of the old definition's fields
  pub subtype_fields : Def → Fields → Bool
  subtype_fields a fnil = true
  subtype_fields a (fcons n q fs) = subtype (under a n) q && subtype_fields a fs
