-- A unique attribute is looked up by its inverse or its index.
use Rattle.std.proofs.Common.{◌≡◌, ℕ, ◌==◌, ◌||◌, true, false, List, [], ◌∷◌, Option, Some, None, refl, sym, ap, ◌∙◌, subst, true≢false}
use Rattle.std.specs.Option.{option_or}
use Rattle.std.specs.List.{All}
use Rattle.st_values.proofs.Tests.{either, first-of, one-of}
use Rattle.st_lattice.specs.declared.attribute.Attribute.{Attribute}
use Rattle.st_lattice.specs.declared.stores.StoreKind.TheVariants.{Index, Inverse}
use Rattle.st_lattice.specs.Outline.{Outline, attribute}
use Rattle.st_lattice.specs.Stores.{aside, keeps_one, store, stores_of}
use Rattle.st_pages.specs.declared.places.Place.{Place}
use Rattle.st_pages.specs.Places.{place_of}
use Rattle.st_catalog.specs.Stores.{AreOf}
use Rattle.st_schema_bytes.specs.SchemaBytes.{IsReadable}
use Rattle.st_state.proofs.Changed.{number-is}
use Rattle.st_store.specs.Stores.{among}
use Rattle.st_index.specs.Turned.{found_place, is_turned_store}
use Rattle.st_index.proofs.Placed.{found-holds}
use Rattle.st_database.proofs.Touching.{AreAmong}
use Rattle.st_standing.proofs.Listed.{has-index, in-holds}
use Rattle.st_lookups.proofs.Membered.{number-below}
use Rattle.st_lookups.proofs.Placed.{none-has}
use Rattle.st_edits.proofs.Setting.{aside-among}

index-there : (schema : Outline) (places : List Place) (n : ℕ) (a : Attribute) → IsReadable schema → AreOf schema places → attribute schema n ≡ Some a → a.index ≡ true → place_of (store Index n) places ≡ None → ⊥
index-there schema places n a readable of f index none =
    in-holds (λ t. t ≡ store Index n → ⊥) (store Index n) (stores_of schema)
    (subst (All (λ t. t ≡ store Index n → ⊥)) of.stores (none-has (store Index n) places none)) (has-index schema n (number-below schema n a readable f) (ap (keeps_one Index) f ∙ index)) refl

-- it has a place, of a store that is kept turned
pub found-there : (schema : Outline) (places : List Place) (n : ℕ) (a : Attribute) → IsReadable schema → AreOf schema places → attribute schema n ≡ Some a → a.index ≡ true
    → (place : Place) × (found_place n places ≡ Some place) × (is_turned_store n place.store ≡ true)
found-there schema places n a readable of f index = by (place_of (store Inverse n) places) (place_of (store Index n) places) refl refl
  where
    store-is : (t : ℕ) (q : Place) → place_of t places ≡ Some q → (q.store == t) ≡ true
    store-is t q at = (found-holds (λ p. p.store == t) (λ p. Unit {0}) places q at (λ i d w. tt)).1

    by : (o p : Option Place) → place_of (store Inverse n) places ≡ o → place_of (store Index n) places ≡ p → (place : Place) × (found_place n places ≡ Some place) × (is_turned_store n place.store ≡ true)
    by (Some q) p at _ = (q, ap (λ (o : Option Place). option_or o (place_of (store Index n) places)) at, one-of (q.store == store Index n) (q.store == store Inverse n) (store-is (store Inverse n) q at))
    by None (Some q) none at =
        (q, ap (λ (o : Option Place). option_or o (place_of (store Index n) places)) none ∙ at, first-of (q.store == store Index n) (q.store == store Inverse n) (store-is (store Index n) q at))
    by None None _ none = absurd (index-there schema places n a readable of f index none)

-- which is among those beside the extents
pub found-aside : (n t : ℕ) (a : Attribute) → a.number ≡ n → is_turned_store n t ≡ true → AreAmong (t ∷ []) (aside a)
found-aside n t a is turned other h =
    either (t == other) (λ b. (b || false) ≡ true → (t == other) ≡ b → among (aside a) other ≡ true)
    (λ k _ _. subst (λ (m : ℕ). among (aside a) m ≡ true) (number-is t other k) (aside-among n t a is turned)) (λ k m _. absurd (true≢false (sym m))) h refl
