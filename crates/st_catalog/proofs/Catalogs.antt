-- A chain is one, and breaks nowhere.
use Rattle.std.proofs.Common.{◌≡◌, ℕ, suc, ◌<◌, ◌≤◌, List, [], ◌∷◌, length, map, refl, sym, ap, ◌∙◌, subst, inl, inr, arith}
use Rattle.std.specs.List.{All}
use Rattle.st_lattice.specs.Outline.{Outline}
use Rattle.st_lattice.specs.Stores.{stores_of}
use Rattle.st_image.specs.declared.wanted.Wanted.{Wanted}
use Rattle.st_image.specs.declared.wanted.Wanted.TheVariants.{Schema, Roots}
use Rattle.st_image.specs.Fields.{next_of}
use Rattle.st_image.specs.Grammar.{IsPage}
use Rattle.st_image.specs.Prefixes.{IsFirstWrong}
use Rattle.st_pages.specs.Attempt.{Array, page_count}
use Rattle.st_pages.specs.declared.places.Place.{Place}
use Rattle.st_schema_bytes.specs.SchemaBytes.{schema_bytes, IsReadable}
use Rattle.st_pages.specs.Chains.{IsChain, Leads, BreaksAt, IsEndless}
use Rattle.st_catalog.specs.Catalog.{Has, SpellsSchema, NamesPlaces, SchemaBroken, RootsBroken, IsBroken, bytes_in, roots_in, root_at, stores_in}
use Rattle.st_catalog.specs.Stores.{placed, IsPlaced}

-- a page that isn't what is wanted
abbrev pub Wrong : Type 0
Wrong = (wanted : Wanted) (page : List ℕ) (place : ℕ) → IsFirstWrong (IsPage wanted) page place → IsPage wanted page → ⊥

abbrev pub OneSchema : Type 0
OneSchema = (a b : Outline) → IsReadable a → IsReadable b → schema_bytes a ≡ schema_bytes b → a ≡ b

one-chain : (wanted : Wanted) (pages : Array) (first : ℕ) (xs ys : List (List ℕ)) → IsChain wanted pages first xs → IsChain wanted pages first ys → xs ≡ ys
one-chain wanted pages first [] ys one two = absurd one
one-chain wanted pages first (x ∷ xs) [] one two = absurd two
one-chain wanted pages first (x ∷ []) (y ∷ []) one two = ap (λ (z : List ℕ). z ∷ []) (sym one.0 ∙ two.0)
one-chain wanted pages first (x ∷ []) (y ∷ w ∷ ys) one two =
    let end : next_of y ≡ 0 = ap next_of (sym two.0 ∙ one.0) ∙ one.2 in
    let more = two.2 in
    absurd (omega (arith, end, more))
one-chain wanted pages first (x ∷ z ∷ xs) (y ∷ []) one two =
    let end : next_of x ≡ 0 = ap next_of (sym one.0 ∙ two.0) ∙ two.2 in
    let more = one.2 in
    absurd (omega (arith, end, more))
one-chain wanted pages first (x ∷ z ∷ xs) (y ∷ w ∷ ys) one two =
    let same : x ≡ y = sym one.0 ∙ two.0 in
    let rest = one-chain wanted pages (next_of x) (z ∷ xs) (w ∷ ys) one.3 (subst (λ n. IsChain wanted pages n (w ∷ ys)) (ap next_of (sym same)) two.3) in
    ap (λ (v : List ℕ). v ∷ z ∷ xs) same ∙ ap (λ (vs : List (List ℕ)). y ∷ vs) rest

-- a chain leads to pages that are what is wanted
leads-in : (wanted : Wanted) (pages : Array) (first page : ℕ) (xs ys : List (List ℕ)) → IsChain wanted pages first xs → Leads wanted pages first ys page → IsPage wanted (pages page)
leads-in wanted pages first page [] ys chain leads = absurd chain
leads-in wanted pages first page (x ∷ []) [] chain leads = subst (λ n. IsPage wanted (pages n)) (sym leads) (subst (IsPage wanted) (sym chain.0) chain.1)
leads-in wanted pages first page (x ∷ z ∷ xs) [] chain leads = subst (λ n. IsPage wanted (pages n)) (sym leads) (subst (IsPage wanted) (sym chain.0) chain.1)
leads-in wanted pages first page (x ∷ []) (y ∷ ys) chain leads =
    let end : next_of y ≡ 0 = ap next_of (sym leads.0 ∙ chain.0) ∙ chain.2 in
    let more = leads.2 in
    absurd (omega (arith, end, more))
leads-in wanted pages first page (x ∷ z ∷ xs) (y ∷ ys) chain leads =
    let same : x ≡ y = sym chain.0 ∙ leads.0 in
    leads-in wanted pages (next_of x) page (z ∷ xs) ys chain.3 (subst (λ n. Leads wanted pages n ys page) (ap next_of (sym same)) leads.3)

-- a chain leads no farther than it is long
leads-less : (wanted : Wanted) (pages : Array) (first page : ℕ) (xs ys : List (List ℕ)) → IsChain wanted pages first xs → Leads wanted pages first ys page → length ys < length xs
leads-less wanted pages first page [] ys chain leads = absurd chain
leads-less wanted pages first page (x ∷ xs) [] chain leads = omega arith
leads-less wanted pages first page (x ∷ []) (y ∷ ys) chain leads =
    let end : next_of y ≡ 0 = ap next_of (sym leads.0 ∙ chain.0) ∙ chain.2 in
    let more = leads.2 in
    absurd (omega (arith, end, more))
leads-less wanted pages first page (x ∷ z ∷ xs) (y ∷ ys) chain leads =
    let same : x ≡ y = sym chain.0 ∙ leads.0 in
    let rest = leads-less wanted pages (next_of x) page (z ∷ xs) ys chain.3 (subst (λ n. Leads wanted pages n ys page) (ap next_of (sym same)) leads.3) in
    omega (arith, rest)

unbroken : Wrong → (wanted : Wanted) (pages : Array) (first page place : ℕ) (xs : List (List ℕ)) → IsChain wanted pages first xs → BreaksAt wanted pages first page place → ⊥
unbroken wrong wanted pages first page place xs chain breaks = wrong wanted (pages page) place breaks.wrong (leads-in wanted pages first page xs breaks.images chain breaks.leads)

ends : (wanted : Wanted) (pages : Array) (first : ℕ) (xs : List (List ℕ)) → IsChain wanted pages first xs → length xs ≤ page_count → IsEndless wanted pages first → ⊥
ends wanted pages first xs chain few endless =
    let less = leads-less wanted pages first endless.end xs endless.images chain endless.leads in
    let many = endless.many in
    omega (arith, less, few, many)

-- ---- one schema

pub one-spelled : OneSchema → (pages : Array) (a b : Outline) → SpellsSchema pages a → SpellsSchema pages b → a ≡ b
one-spelled one pages a b first second =
    let same = one-chain Schema pages 1 first.images second.images first.chain second.chain in
    one a b first.readable second.readable (sym first.bytes ∙ ap bytes_in same ∙ second.bytes)

back : (schema : Outline) (place : Place) → IsPlaced schema place → place ≡ placed schema (root_at place)
back schema place is = λ i. record { store = place.store; first = place.first; key = is.key i; width = is.width i }

all-back : (schema : Outline) (places : List Place) → All (IsPlaced schema) places → places ≡ map (placed schema) (map root_at places)
all-back schema [] all = refl
all-back schema (p ∷ places) all =
    let here = back schema p (all 0 p (omega arith)) in
    let rest = all-back schema places (λ k d within. all (suc k) d (omega (arith, within))) in
    ap (λ (q : Place). q ∷ places) here ∙ ap (λ (qs : List Place). placed schema (root_at p) ∷ qs) rest

one-named : (pages : Array) (schema : Outline) (p q : List Place) → NamesPlaces pages schema p → NamesPlaces pages schema q → p ≡ q
one-named pages schema p q first second =
    let same = one-chain Roots pages 0 first.images second.images first.chain second.chain in
    let roots : map root_at p ≡ map root_at q = sym first.roots ∙ ap roots_in same ∙ second.roots in
    all-back schema p first.of.placed ∙ ap (map (placed schema)) roots ∙ sym (all-back schema q second.of.placed)

pub one-catalog : OneSchema → (pages : Array) (a b : Outline) (p q : List Place) → Has pages a p → Has pages b q → (a ≡ b) × (p ≡ q)
one-catalog one pages a b p q first second =
    let same = one-spelled one pages a b first.spells second.spells in
    (same, one-named pages a p q first.names (subst (λ s. NamesPlaces pages s q) (sym same) second.names))

-- ---- none where pages are broken

stores-named : (pages : Array) (schema : Outline) (places : List Place) → NamesPlaces pages schema places → (images : List (List ℕ)) → IsChain Roots pages 0 images → stores_in (roots_in images) ≡ stores_of schema
stores-named pages schema places named images chain =
    let same = one-chain Roots pages 0 images named.images chain named.chain in
    ap (λ (xs : List (List ℕ)). stores_in (roots_in xs)) same ∙ ap stores_in named.roots ∙ mapped places ∙ named.of.stores
  where
    mapped : (ps : List Place) → stores_in (map root_at ps) ≡ map (λ (p : Place). p.store) ps
    mapped [] = refl
    mapped (p ∷ ps) = ap (λ (ns : List ℕ). p.store ∷ ns) (mapped ps)

no-schema : Wrong → (pages : Array) (page place : ℕ) (schema : Outline) → SchemaBroken pages page place → SpellsSchema pages schema → ⊥
no-schema wrong pages page place schema (inl breaks) spells = unbroken wrong Schema pages 1 page place spells.images spells.chain breaks
no-schema wrong pages page place schema (inr (one, two, inl endless)) spells = ends Schema pages 1 spells.images spells.chain spells.few endless
no-schema wrong pages page place schema (inr (one, two, inr none)) spells =
    let same = one-chain Schema pages 1 (none.0) spells.images (none.1) spells.chain in
    none.2 schema spells.readable (ap bytes_in same ∙ spells.bytes)

no-places : Wrong → (pages : Array) (page place : ℕ) (schema : Outline) (places : List Place) → RootsBroken pages schema page place → NamesPlaces pages schema places → ⊥
no-places wrong pages page place schema places (inl breaks) named = unbroken wrong Roots pages 0 page place named.images named.chain breaks
no-places wrong pages page place schema places (inr (one, two, inl endless)) named = ends Roots pages 0 named.images named.chain named.few endless
no-places wrong pages page place schema places (inr (one, two, inr others)) named = others.2 (stores-named pages schema places named (others.0) (others.1))

pub none-broken : Wrong → OneSchema → (pages : Array) (page place : ℕ) (schema : Outline) (places : List Place) → IsBroken pages page place → Has pages schema places → ⊥
none-broken wrong one pages page place schema places (inl broken) has = no-schema wrong pages page place schema broken has.spells
none-broken wrong one pages page place schema places (inr broken) has =
    let same = one-spelled one pages broken.0 schema broken.1 has.spells in
    no-places wrong pages page place schema places (subst (λ s. RootsBroken pages s page place) same broken.2) has.names
