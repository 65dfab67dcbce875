-- Series, and lists in brackets: what the written grammar spells is what the trimmed form spells, with space about it (Padded), and the other way about.
use Prim.Native.Nat.{ℕ}
use mathlib.Core.Path.{◌≡◌, refl, sym, ap, ◌∙◌, subst}
use mathlib.Core.List.{List, [], ◌∷◌, ◌++◌, append_assoc, append-nil}
use Rattle.model.proofs.Basics.{all_append}
use Rattle.grammar.specs.Written.{Language, IsSpace, IsStructural, structural, IsSeries, one, more, IsBracketed, empty, series}
use Rattle.grammar.proofs.Trimmed.{Padded, TrimmedSeries, first_item, next_item, TrimmedBracketed, no_items, some_items}

-- ---- space

pub space_append : (a b : List ℕ) → IsSpace a → IsSpace b → IsSpace (a ++ b)
space_append a b h g = all_append _ a b ∙ rw (h, g)

-- the same space about another thing
pub padded_as : {A B : Type 0} {X : Language A} {Y : Language B} {w : List ℕ} {a : A} {b : B} → ((x : List ℕ) → X x a → Y x b) → Padded X w a → Padded Y w b
padded_as f p = record { a = p.a; x = p.x; b = p.b; spelled = p.spelled; space_a = p.space_a; space_b = p.space_b; inside = f p.x p.inside }

-- no space
pub padded_none : {A : Type 0} {X : Language A} {w : List ℕ} {a : A} → X w a → Padded X w a
padded_none {w = w} h = record { a = []; x = w; b = []; spelled = sym (append-nil w); space_a = refl; space_b = refl; inside = h }

-- ---- how bytes are put together, in the one form and in the other

-- an item y, which is x between space, behind w and a comma; and with a further comma and z behind it
joined_item : (w g h a x b y : List ℕ) → y ≡ a ++ (x ++ b) → w ++ (g ++ (0x2C ∷ h ++ y)) ≡ w ++ (g ++ (0x2C ∷ (h ++ a) ++ x)) ++ b
joined_item w g h a x b y e = rw e (simp append_assoc)

joined_items : (w g h a x b k m y z : List ℕ) → y ≡ a ++ (x ++ b)
    → w ++ (g ++ (0x2C ∷ h ++ (y ++ (k ++ (0x2C ∷ m) ++ z)))) ≡ w ++ (g ++ (0x2C ∷ (h ++ a) ++ x)) ++ (b ++ k ++ (0x2C ∷ m ++ z))
joined_items w g h a x b k m y z e = rw e (simp append_assoc)

-- the first item, with a comma and z behind it
first_items : (a x b k m y z : List ℕ) → y ≡ a ++ (x ++ b) → y ++ (k ++ (0x2C ∷ m) ++ z) ≡ a ++ (x ++ (b ++ k ++ (0x2C ∷ m ++ z)))
first_items a x b k m y z e = rw e (simp append_assoc)

-- a series w, which is x between space, in brackets; and no item
between_brackets : (a b c d x y z w : List ℕ) (o e : ℕ) → w ≡ y ++ (x ++ z)
    → a ++ (o ∷ b) ++ (w ++ (c ++ (e ∷ d))) ≡ a ++ (o ∷ b ++ y ++ (x ++ (z ++ c ++ (e ∷ []))) ++ d)
between_brackets a b c d x y z w o e h =
    let inner : b ++ (w ++ (c ++ (e ∷ d))) ≡ b ++ y ++ (x ++ (z ++ c ++ (e ∷ []))) ++ d = rw h (simp append_assoc) in
    append_assoc a (o ∷ b) (w ++ (c ++ (e ∷ d))) ∙ ap (λ (t : List ℕ). a ++ (o ∷ t)) inner

no_item_between : (a b c d : List ℕ) (o e : ℕ) → a ++ (o ∷ b) ++ (c ++ (e ∷ d)) ≡ a ++ (o ∷ b ++ c ++ (e ∷ []) ++ d)
no_item_between a b c d o e = simp append_assoc

-- ---- items of a language, each of which is added to what is before it

module _ {A L : Type 0} (add : L → A → L) where
  -- all items, one behind the other
  abbrev pub adds : L → List A → L
  adds before [] = before
  adds before (a ∷ rest) = adds (add before a) rest

  -- each may stand behind those before it
  abbrev pub Fits : (L → A → Type 0) → L → List A → Type 0
  Fits Fit before [] = Unit
  Fits Fit before (a ∷ rest) = Fit before a × Fits Fit (add before a) rest

module _ {A L : Type 0} (IsItem : Language A) (Item : L → Language L) (add : L → A → L) (Fit : L → A → Type 0) (none : L) where
  -- from the written grammar
  module _ (trim : (before : L) (w : List ℕ) (a : A) → IsItem w a → Fit before a → Padded (Item before) w (add before a)) where
    -- a series behind another and a comma
    behind : {x : List ℕ} {items : List A} → IsSeries IsItem x items → (before : L) → Fits add Fit before items → (w g h : List ℕ)
        → TrimmedSeries Item none w before → IsSpace g → IsSpace h
        → (z : List ℕ) × (b : List ℕ) × (w ++ (g ++ (0x2C ∷ h ++ x)) ≡ z ++ b) × IsSpace b × TrimmedSeries Item none z (adds add before items)
    behind (one {w = y} {a} i) before f w g h t sg sh =
        let p = trim before y a i f.0 in (
          w ++ (g ++ (0x2C ∷ (h ++ p.a) ++ p.x)),
          p.b,
          joined_item w g h p.a p.x p.b y p.spelled,
          p.space_b,
          next_item g (h ++ p.a) t sg (space_append h p.a sh p.space_a) p.inside,
        )
    behind (more {w = y} {x = z} {a = a} i (structural k m sk sm) s) before f w g h t sg sh =
        let p = trim before y a i f.0 in
        let r = behind s (add before a) f.1 (w ++ (g ++ (0x2C ∷ (h ++ p.a) ++ p.x))) (p.b ++ k) m
        (next_item g (h ++ p.a) t sg (space_append h p.a sh p.space_a) p.inside) (space_append p.b k p.space_b sk) sm in
        (r.0, r.1, joined_items w g h p.a p.x p.b k m y z p.spelled ∙ r.2, r.3, r.4)

    series_trim : {w : List ℕ} {items : List A} → IsSeries IsItem w items → Fits add Fit none items → Padded (TrimmedSeries Item none) w (adds add none items)
    series_trim (one {w = y} {a} i) f =
        padded_as (λ x h. first_item h) (trim none y a i f.0)
    series_trim (more {w = y} {x = z} {a = a} i (structural k m sk sm) s) f =
        let p = trim none y a i f.0 in
        let r = behind s (add none a) f.1 p.x (p.b ++ k) m (first_item p.inside) (space_append p.b k p.space_b sk) sm in
        record {
          a = p.a;
          x = r.0;
          b = r.1;
          spelled = first_items p.a p.x p.b k m y z p.spelled ∙ ap (λ (w : List ℕ). p.a ++ w) r.2;
          space_a = p.space_a;
          space_b = r.3;
          inside = r.4;
        }

    pub bracketed_trim : {o c : ℕ} {w : List ℕ} {items : List A} → IsBracketed o c IsItem w items → Fits add Fit none items
        → Padded (TrimmedBracketed o c Item none) w (adds add none items)
    bracketed_trim {o} {c} (empty (structural a b sa sb) (structural k m sk sm)) f = record {
      a = a;
      x = o ∷ b ++ k ++ (c ∷ []);
      b = m;
      spelled = no_item_between a b k m o c;
      space_a = sa;
      space_b = sm;
      inside = no_items (b ++ k) (space_append b k sb sk);
    }
    bracketed_trim {o} {c} (series {x = w} (structural a b sa sb) s (structural k m sk sm)) f =
        let p = series_trim s f in
        record {
          a = a;
          x = o ∷ b ++ p.a ++ (p.x ++ (p.b ++ k ++ (c ∷ [])));
          b = m;
          spelled = between_brackets a b k m p.x p.a p.b w o c p.spelled;
          space_a = sa;
          space_b = sm;
          inside = some_items (b ++ p.a) (p.b ++ k) (space_append b p.a sb p.space_a) p.inside (space_append p.b k p.space_b sk);
        }

  -- and back

  adds_last : (before : L) (items : List A) (a : A) → adds add before (items ++ (a ∷ [])) ≡ add (adds add before items) a
  adds_last before [] a = refl
  adds_last before (b ∷ items) a = adds_last (add before b) items a

  fits_last : (before : L) (items : List A) (a : A) → Fits add Fit before items → Fit (adds add before items) a → Fits add Fit before (items ++ (a ∷ []))
  fits_last before [] a f g = (g, tt)
  fits_last before (b ∷ items) a f g = (f.0, fits_last (add before b) items a f.1 g)

  series_last : {w c x : List ℕ} {items : List A} {a : A} → IsSeries IsItem w items → IsStructural 0x2C c → IsItem x a
      → IsSeries IsItem (w ++ (c ++ x)) (items ++ (a ∷ []))
  series_last (one i) k j = more i k (one j)
  series_last {c = c} {x = x} {a = a} (more {w} {c = d} {x = y} {a = b} {rest = items} i k s) m j =
      subst (λ (z : List ℕ). IsSeries IsItem z (b ∷ items ++ (a ∷ []))) (again w d y c x) (more i k (series_last s m j))
    where
      again : (w d y c x : List ℕ) → w ++ (d ++ (y ++ (c ++ x))) ≡ w ++ (d ++ y) ++ (c ++ x)
      again w d y c x = simp append_assoc

  -- the items of a trimmed form
  pub record Spread (X : Language (List A)) (w : List ℕ) (all : L) : Type 0 where
    pub items : List A
    pub spells : X w items
    pub adds_up : all ≡ adds add none items
    pub fits : Fits add Fit none items

  module _ (spread : (before : L) (w : List ℕ) (all : L) → Item before w all → (a : A) × IsItem w a × (all ≡ add before a) × Fit before a) where
    series_spread : {w : List ℕ} {all : L} → TrimmedSeries Item none w all → Spread (IsSeries IsItem) w all
    series_spread (first_item {w} {all} i) = let q = spread none w all i in record { items = q.0 ∷ []; spells = one q.1; adds_up = q.2; fits = (q.3, tt) }
    series_spread (next_item {w} g h {x} {before} {all} s sg sh i) =
        let r = series_spread s in
        let q = spread before x all i in
        record {
          items = r.items ++ (q.0 ∷ []);
          spells = subst (λ (z : List ℕ). IsSeries IsItem (w ++ z) (r.items ++ (q.0 ∷ []))) (append_assoc g (0x2C ∷ h) x)
              (series_last r.spells (structural g h sg sh) q.1);
          adds_up = q.2 ∙ ap (λ (l : L). add l q.0) r.adds_up ∙ sym (adds_last none r.items q.0);
          fits = fits_last none r.items q.0 r.fits (subst (λ (l : L). Fit l q.0) r.adds_up q.3);
        }

    pub bracketed_spread : {o c : ℕ} {w : List ℕ} {all : L} → TrimmedBracketed o c Item none w all → Spread (IsBracketed o c IsItem) w all
    bracketed_spread (no_items a sa) = record { items = []; spells = empty (structural [] a refl sa) (structural [] [] refl refl); adds_up = refl; fits = tt }
    bracketed_spread (some_items a b sa s sb) =
        let r = series_spread s in
        record { items = r.items; spells = series (structural [] a refl sa) r.spells (structural b [] sb refl); adds_up = r.adds_up; fits = r.fits }
