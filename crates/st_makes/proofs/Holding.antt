-- Who has a value of an attribute: nobody, where the attribute can't have it.
use Rattle.std.proofs.Common.{◌≡◌, ℕ, Bool, true, false, List, [], ◌∷◌, Some, None, refl, sym, ◌∙◌, ap, subst, true≢false}
use Rattle.std.specs.Prelude.{◌==◌, ◌&&◌, ◌||◌, not, cond, map, filter, find, is_some}
use Rattle.std.specs.List.{list_all, list_any}
use Rattle.std.specs.Str.{bytes_eq}
use Rattle.st_values.specs.declared.value.Kind.{Kind}
use Rattle.st_values.specs.declared.value.Kind.TheVariants as kind
use Rattle.st_values.specs.declared.value.Value.{Value}
use Rattle.st_values.specs.declared.value.Value.TheVariants as value
use Rattle.st_values.specs.Order.{same_value}
use Rattle.st_values.proofs.Entities.{same_value-is}
use Rattle.st_values.proofs.Tests.{left, right, either, not-true, all-not}
use Rattle.st_lattice.specs.declared.attribute.Attribute.{Attribute}
use Rattle.st_lattice.specs.Outline.{Outline, attribute}
use Rattle.st_lattice.specs.Lattice.{isa, attribute_of}
use Rattle.st_lattice.specs.Stores.{passes}
use Rattle.st_state.specs.declared.triple.Triple.{Triple}
use Rattle.st_state.specs.State.{State, is_live, turned}
use Rattle.st_state.specs.Legal.{can_hold, is_sound, IsNearlyLegal}
use Rattle.st_state.specs.Calls.{HasAttribute}
use Rattle.st_state.proofs.Changed.{number-is, number-itself}
use Rattle.st_state.proofs.Members.{Member, find-member}
use Rattle.st_meaning.specs.Statements.{holder}
use Rattle.st_makes.specs.Makes.{may_have}

-- what an attribute can't have it can't hold
pub not-held : (s : State) (k : Kind) (v : Value) → may_have k v ≡ false → can_hold s k v ≡ false
not-held s kind.Int value.Null h = refl
not-held s kind.Bool value.Null h = refl
not-held s (kind.Text limit) value.Null h = refl
not-held s (kind.Entity ty) value.Null h = refl
not-held s (kind.Text limit) (value.Text text) h = h
not-held s kind.Int (value.Int i) h = absurd (true≢false h)
not-held s kind.Int (value.Bool i) h = absurd (true≢false h)
not-held s kind.Int (value.Text i) h = absurd (true≢false h)
not-held s kind.Int (value.Entity i) h = absurd (true≢false h)
not-held s kind.Bool (value.Int i) h = absurd (true≢false h)
not-held s kind.Bool (value.Bool i) h = absurd (true≢false h)
not-held s kind.Bool (value.Text i) h = absurd (true≢false h)
not-held s kind.Bool (value.Entity i) h = absurd (true≢false h)
not-held s (kind.Text limit) (value.Int i) h = absurd (true≢false h)
not-held s (kind.Text limit) (value.Bool i) h = absurd (true≢false h)
not-held s (kind.Text limit) (value.Entity i) h = absurd (true≢false h)
not-held s (kind.Entity ty) (value.Int i) h = absurd (true≢false h)
not-held s (kind.Entity ty) (value.Bool i) h = absurd (true≢false h)
not-held s (kind.Entity ty) (value.Text i) h = absurd (true≢false h)
not-held s (kind.Entity ty) (value.Entity i) h = absurd (true≢false h)

-- a value that no attribute can hold is in no triple
pub unheld : (s : State) → IsNearlyLegal s → (a : Attribute) (v : Value) → attribute s.schema a.number ≡ Some a → can_hold s a.kind v ≡ false → turned a.number v s.triples ≡ []
unheld s n a v f h = along s.triples n.sound
  where
    here : Triple → Bool
    here t = (t.attribute == a.number) && same_value t.value v

    holds : ℕ → Triple → Bool
    holds number t = passes (λ x. isa s.schema t.entity.ty x.owner && can_hold s x.kind t.value) (attribute s.schema number)

    along : (ts : List Triple) → list_all (is_sound s) ts ≡ true → turned a.number v ts ≡ []
    along [] g = refl
    along (t ∷ ts) g =
        either ((t.attribute == a.number) && same_value t.value v) (λ b. map (λ x. x.entity) (cond b (t ∷ filter (λ x. (x.attribute == a.number) && same_value x.value v) ts) (filter (λ x. (x.attribute == a.number) && same_value x.value v) ts)) ≡ [])
        (λ k.
        let same : t.attribute ≡ a.number = number-is t.attribute a.number (left (t.attribute == a.number) (same_value t.value v) k) in
        let is : t.value ≡ v = same_value-is t.value v (right (t.attribute == a.number) (same_value t.value v) k) in
        let sound = right (is_live s t.entity) (passes (λ x. isa s.schema t.entity.ty x.owner && can_hold s x.kind t.value) (attribute s.schema t.attribute)) (left (is_sound s t) (list_all (is_sound s) ts) g) in
        let at : passes (λ x. isa s.schema t.entity.ty x.owner && can_hold s x.kind t.value) (Some a) ≡ true =
        subst (λ o. passes (λ x. isa s.schema t.entity.ty x.owner && can_hold s x.kind t.value) o ≡ true) f
        (subst (λ z. passes (λ x. isa s.schema t.entity.ty x.owner && can_hold s x.kind t.value) (attribute s.schema z) ≡ true) same sound) in
        absurd (true≢false (sym (right (isa s.schema t.entity.ty a.owner) (can_hold s a.kind t.value) at) ∙ ap (can_hold s a.kind) is ∙ h)))
        (λ _. along ts (right (is_sound s t) (list_all (is_sound s) ts) g))

pub no-holder : (s : State) → IsNearlyLegal s → (ty : ℕ) (a : Attribute) (v : Value) → attribute s.schema a.number ≡ Some a → may_have a.kind v ≡ false → None ≡ holder s ty (Some a) v
no-holder s n ty a v f h = sym (ap (find (λ e. isa s.schema e.ty ty)) (unheld s n a v f (not-held s a.kind v h)))

-- an attribute of a schema is found by its number
pub numbered : (a : Attribute) (xs : List Attribute) → Member a xs → is_some (find (λ b. b.number == a.number) xs) ≡ true
numbered a xs m = there xs (list_any (λ b. b.number == a.number) xs) refl
  where
    there : (ys : List Attribute) (b : Bool) → list_any (λ b. b.number == a.number) xs ≡ b → is_some (find (λ b. b.number == a.number) xs) ≡ true
    there ys true e = found_one xs e
      where
        found_one : (zs : List Attribute) → list_any (λ b. b.number == a.number) zs ≡ true → is_some (find (λ b. b.number == a.number) zs) ≡ true
        found_one [] k = absurd (true≢false (sym k))
        found_one (z ∷ zs) k =
            either (z.number == a.number) (λ b. (b || list_any (λ y. y.number == a.number) zs) ≡ true → is_some (cond b (Some z) (find (λ y. y.number == a.number) zs)) ≡ true) (λ _ _. refl) (λ _ n. found_one zs n) k
    there ys false e = absurd (true≢false (sym (number-itself a.number) ∙ not-true (a.number == a.number) (m (λ b. not (b.number == a.number)) (all-not (λ b. b.number == a.number) xs ∙ ap not e))))

pub there-by-name : (schema : Outline) (ty : ℕ) (name : List ℕ) (a : Attribute) → attribute_of schema ty name ≡ Some a → HasAttribute schema a.number
there-by-name schema ty name a f = numbered a schema.attributes (find-member (λ x. isa schema ty x.owner && bytes_eq x.name name) a schema.attributes f)
