-- Calls on the pages of a database, as calls of the base that it is.
use Rattle.std.proofs.Common.{◌≡◌, ℕ, Bool, true, false, List, [], ◌∷◌, Option, Some, None, Result, Ok, Err, IsSome, OnOk, inl, inr, refl, sym, ◌∙◌, subst}
use Rattle.std.specs.Prelude.{◌⊎◌, is_ok}
use Rattle.std.specs.Int.{w32, to_be_bytes}
use Rattle.st_page.specs.declared.fault.PageFault.{PageFault}
use Rattle.st_values.specs.declared.value.EntityId.{EntityId}
use Rattle.st_values.specs.declared.value.Value.{Value}
use Rattle.st_lattice.specs.declared.stores.StoreKind.TheVariants.{Extent}
use Rattle.st_lattice.specs.Outline.{Outline}
use Rattle.st_lattice.specs.Stores.{store}
use Rattle.st_pages.specs.declared.places.Place.{Place}
use Rattle.st_pages.specs.Attempt.{Array, Attempt, image_or, over}
use Rattle.st_pages.specs.Calls as pages
use Rattle.st_pages.specs.Places.{place_of}
use Rattle.st_index.proofs.Called.{PageLaws}
use Rattle.st_database.specs.Touches.{Touches}
use Rattle.st_database.proofs.Touching.{AreAmong}
use Rattle.st_standing.specs.Standing.{NearlyStandsAt, view_of}
use Rattle.st_state.specs.State.{State}
use Rattle.st_state.specs.Calls.{Call, Get, HasSingle, Set, after, call_stores, due, may_change}
use Rattle.st_plain.specs.declared.fault.BaseFault.{BaseFault}
use Rattle.st_plain.specs.Base.{Asked, Gives, Reaches}
use Rattle.st_lookups.specs.Looks.{Finds, Peeks}
use Rattle.st_edits.specs.Edits.{Behaves, Edits, IsUnanswered, PutsStores}
use Rattle.st_edits.proofs.StoresPut.{puts-looked}
use Rattle.st_paged.specs.Answers.{told_answer}
use Rattle.st_paged.specs.Paged.{AsksFor, Continues, IsReached, Parts, PutsFor, StandsIn}
use Rattle.st_paged.proofs.Asking.{edits-one, looks-one, single-among}
use Rattle.st_paged.proofs.Giving.{gives-found, gives-less, of-place, reaches-found, reaches-put, schema-after}
use Rattle.st_paged.proofs.Reaching.{SpotLaws, reached-by}

-- a schema, places and pages
abbrev pub parts : {P : Type 0} → Outline → List Place → P → Parts P
parts schema places pages = record { schema = schema; places = places; pages = pages }

-- one call alone
abbrev pub one : State → Call → Bool → List Asked
one s call answered = record { state = s; call = call; answered = answered } ∷ []

pub on-ok : {A F S : Type 0} (T : Type 0) (r : Result A F) → OnOk r S → (S → T) → OnOk r T
on-ok T (Ok x) h to = to h
on-ok T (Err fault) h to = tt

-- a value that was set has put the page of the row that stood there in front of the call
puts-set : {P : Type 0} (attempt : P → Attempt) (follows : P → P → Type 0) (form : Place → Array → List ℕ → List (List ℕ) → Type 0) (spot : Place → Array → List ℕ → ℕ → Type 0) (asked : P → P → (ℕ → Bool) → (ℕ → Bool) → ℕ → Type 0)
    → (a b : Parts P) (array : Array) (s : State) (e : EntityId) (number : ℕ) (value : Value) (result : Result (Unit {0}) BaseFault) → Continues attempt follows a a → Continues attempt follows a b → StandsIn attempt form a array s
    → OnOk result ((place : Place) → place_of (store Extent e.ty) a.places ≡ Some place → (page : ℕ) × spot place (over (attempt a.pages) array) (to_be_bytes w32 e.serial) page × IsSome ((attempt b.pages).written page))
    → PutsFor attempt follows form spot asked a b array s (Set e number value) (is_ok result)
puts-set attempt follows form spot asked a b array s e number value (Ok x) itself ab stands put = λ place at.
    let found = put place at in
    record { at = a; since = itself; until = ab; stands = stands; page = found.0; stood = found.1; put = found.2 }
puts-set attempt follows form spot asked a b array s e number value (Err fault) itself ab stands put = tt

module _ {P : Type 0} (attempt : P → Attempt) (follows : P → P → Type 0) (asked : P → P → (ℕ → Bool) → (ℕ → Bool) → ℕ → Type 0) (laws : PageLaws attempt follows asked) (form : Place → Array → List ℕ → List (List ℕ) → Type 0) (spot : Place → Array → List ℕ → ℕ → Type 0) (spots : SpotLaws form spot)
    (schema : Outline) (places : List Place) (p q : P) (a : Parts P) (view : parts schema places p ≡ a) where
  -- ---- what calls keep

  -- those that only look
  pub looked-continues : {A : Type 0} (old new : pages.Met) (result : Result A PageFault) → Peeks (follows p q) (attempt p) (attempt q) old new result → Continues attempt follows a (parts schema places q)
  looked-continues old new result keeps =
      subst (λ (x : Parts P). Continues attempt follows x (parts schema places q)) view
      (record { below = keeps.below; same_schema = refl; same_places = refl; kinds = puts-looked attempt follows asked laws p q keeps.below keeps.written })

  edited-goes : {A : Type 0} (old new : pages.Met) (call : Call) (result : Result A BaseFault) → Behaves (follows p q) old new call result → PutsStores (attempt p) (attempt q) → Continues attempt follows (parts schema places p) (parts schema places q)
  edited-goes old new call result behaves kinds = record { below = behaves.below; same_schema = refl; same_places = refl; kinds = kinds }

  -- those that may change something
  pub edited-continues : {A : Type 0} (old new : pages.Met) (call : Call) (result : Result A BaseFault) → Behaves (follows p q) old new call result → PutsStores (attempt p) (attempt q) → Continues attempt follows a (parts schema places q)
  edited-continues old new call result behaves kinds = subst (λ (x : Parts P). Continues attempt follows x (parts schema places q)) view (edited-goes old new call result behaves kinds)

  -- ---- what they give of a state

  module _ (array : Array) (s : State) (stands : StandsIn attempt form a array s) where
    -- it is stood for by the parts themselves
    pub stood : StandsIn attempt form (parts schema places p) array s
    stood = subst (λ (x : Parts P). StandsIn attempt form x array s) (sym view) stands

    -- and still is where nothing was written
    looked-stands : (attempt q).written ≡ (attempt p).written → StandsIn attempt form (parts schema places q) array s
    looked-stands same = record {
      of_schema = stood.of_schema;
      nearly = subst (λ (written : ℕ → Option (List ℕ)). NearlyStandsAt form (λ page. image_or (array page) (written page)) places s) (sym same) stood.nearly;
    }

    pub looked-gives : {A : Type 0} (old new : pages.Met) (result : Result A PageFault) (told : Result A BaseFault) (stores : List ℕ) (call : Call) (right : A → Type 0) → told ≡ told_answer result → due s call ≡ None → after s call ≡ s
        → Peeks (follows p q) (attempt p) (attempt q) old new result → Finds (asked p q) (attempt p) (attempt q) array right stores result
        → Gives (StandsIn attempt form (parts schema places q) array) s call right told
    looked-gives {A} old new result told stores call right is none same keeps finds =
        subst (λ (r : Result A BaseFault). Gives (StandsIn attempt form (parts schema places q) array) s call right r) (sym is)
        (gives-found (StandsIn attempt form (parts schema places q) array) s call right none
        (subst (λ (t : State). StandsIn attempt form (parts schema places q) array t) (sym same) (looked-stands keeps.written)) result finds.answers finds.sound keeps.looks)

    pub edited-gives : {A : Type 0} (result : Result A BaseFault) (call : Call) (right : A → Type 0) → Edits form (asked p q) (attempt p) (attempt q) array places s call right result
        → Gives (StandsIn attempt form (parts schema places q) array) s call right result
    edited-gives result call right edits =
        gives-less (λ t. NearlyStandsAt form (over (attempt q) array) places t) (λ t. StandsIn attempt form (parts schema places q) array t) s call right
        (λ nearly. record { of_schema = stood.of_schema; nearly = nearly }) (λ nearly. record { of_schema = schema-after s call ∙ stood.of_schema; nearly = nearly }) result edits.gives

    -- ---- what they ask of pages

    pub looked-asks : {A : Type 0} (result : Result A PageFault) (stores : List ℕ) (call : Call) (answered : Bool) (right : A → Type 0) → AreAmong stores (call_stores s.schema call) → Finds (asked p q) (attempt p) (attempt q) array right stores result
        → PutsFor attempt follows form spot asked (parts schema places p) (parts schema places q) array s call answered → AsksFor attempt follows form spot asked a (parts schema places q) array (one s call answered)
    looked-asks result stores call answered right among-all finds puts =
        subst (λ (x : Parts P). AsksFor attempt follows form spot asked x (parts schema places q) array (one s call answered)) view
        (looks-one attempt follows form spot asked laws (parts schema places p) (parts schema places q) array s call answered stores among-all finds.touches puts)

    pub edited-asks : {A : Type 0} (result : Result A BaseFault) (call : Call) (answered : Bool) (right : A → Type 0) → may_change call ≡ true → Edits form (asked p q) (attempt p) (attempt q) array places s call right result
        → PutsFor attempt follows form spot asked (parts schema places p) (parts schema places q) array s call answered → AsksFor attempt follows form spot asked a (parts schema places q) array (one s call answered)
    edited-asks result call answered right may edits puts =
        subst (λ (x : Parts P). AsksFor attempt follows form spot asked x (parts schema places q) array (one s call answered)) view
        (edits-one attempt follows form spot asked laws (parts schema places p) (parts schema places q) array s call answered may edits.touches puts)

    -- ---- the page of an entity's row

    module _ (e : EntityId) (number : ℕ) where
      -- the page on which the row is was seen, or put
      abbrev pub Saw : Type 0
      Saw = (place : Place) → place_of (store Extent e.ty) places ≡ Some place → (page : ℕ) × spot place (over (attempt p) array) (to_be_bytes w32 e.serial) page × IsSome ((attempt q).seen page)

      abbrev pub Put : Type 0
      Put = (place : Place) → place_of (store Extent e.ty) places ≡ Some place → (page : ℕ) × spot place (over (attempt p) array) (to_be_bytes w32 e.serial) page × IsSome ((attempt q).written page)

      -- so that in the array itself it was got
      reached-of : follows p q → Saw → IsReached attempt (parts schema places q) array e
      reached-of pq saw = reached-by form spot spots attempt follows laws.is_sound laws.seen_stays p q pq array s.schema places (view_of s) stood.nearly.database (parts schema places q) refl refl e saw

      pub looked-reaches : (old new : pages.Met) (result : Result Value PageFault) (told : Result Value BaseFault) → told ≡ told_answer result → Peeks (follows p q) (attempt p) (attempt q) old new result → OnOk result Saw
          → Reaches (IsReached attempt (parts schema places q) array e) told
      looked-reaches old new result told is keeps saw =
          subst (λ (r : Result Value BaseFault). Reaches (IsReached attempt (parts schema places q) array e) r) (sym is)
          (reaches-found (IsReached attempt (parts schema places q) array e) result (on-ok (IsReached attempt (parts schema places q) array e) result saw (reached-of keeps.below)) keeps.looks)

      module _ (value : Value) (result : Result (Unit {0}) BaseFault) where
        pub set-puts : (old new : pages.Met) → follows p p → Behaves (follows p q) old new (Set e number value) result → PutsStores (attempt p) (attempt q) → OnOk result Put
            → PutsFor attempt follows form spot asked (parts schema places p) (parts schema places q) array s (Set e number value) (is_ok result)
        set-puts old new itself behaves kinds put =
            puts-set attempt follows form spot asked (parts schema places p) (parts schema places q) array s e number value result
            (record { below = itself; same_schema = refl; same_places = refl; kinds = λ h. h }) (edited-goes old new (Set e number value) result behaves kinds) stood put

        -- the page was got, or the call only looked
        module _ (below : follows p q) (has : HasSingle s e number)
            (first : (place : Place) → place_of (store Extent e.ty) places ≡ Some place → ((page : ℕ) × spot place (over (attempt p) array) (to_be_bytes w32 e.serial) page × IsSome ((attempt q).seen page))
            ⊎ (IsUnanswered result × Touches (asked p q) (attempt p) (attempt q) array (store Extent e.ty ∷ []) false 0 0)) where
          got-first : IsReached attempt (parts schema places q) array e ⊎ (IsUnanswered result × Touches (asked p q) (attempt p) (attempt q) array (store Extent e.ty ∷ []) false 0 0)
          got-first =
              elim (of-place (place_of (store Extent e.ty) places) (λ place. (page : ℕ) × spot place (over (attempt p) array) (to_be_bytes w32 e.serial) page × IsSome ((attempt q).seen page))
              (IsUnanswered result × Touches (asked p q) (attempt p) (attempt q) array (store Extent e.ty ∷ []) false 0 0) first) [
                | inl saw ↦ inl (reached-of below saw)
                | inr looked ↦ inr looked
              ]

          pub set-reaches : Reaches (IsReached attempt (parts schema places q) array e) result
          set-reaches = reaches-put (IsReached attempt (parts schema places q) array e) result (elim got-first [ inl got ↦ inl got | inr looked ↦ inr looked.0 ])

          pub set-first : IsReached attempt (parts schema places q) array e ⊎ AsksFor attempt follows form spot asked a (parts schema places q) array (one s (Get e number) (is_ok result))
          set-first = elim got-first [
            | inl got ↦ inl got
            | inr looked ↦ inr (subst (λ (x : Parts P). AsksFor attempt follows form spot asked x (parts schema places q) array (one s (Get e number) (is_ok result))) view
                (looks-one attempt follows form spot asked laws (parts schema places p) (parts schema places q) array s (Get e number) (is_ok result) (store Extent e.ty ∷ []) (single-among s e number stood.nearly.legal has) looked.1 tt))
          ]
