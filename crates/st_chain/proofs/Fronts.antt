-- The page in front of a spot is one of the chain.
use Rattle.std.proofs.Common.{◌≡◌, ℕ, ◌==◌, Bool, true, List, [], ◌∷◌, ◌++◌, drop, Option, Some, None, IfSome, IsTrue, refl, sym, ap, ◌∙◌, subst}
use Rattle.std.specs.Prelude.{MatchOption, not}
use Rattle.std.specs.List.{list_all}
use Rattle.st_values.specs.Arranged.{ascends}
use Rattle.st_image.specs.Fields.{count_of, kind_of}
use Rattle.st_image.specs.Grammar.{row_before}
use Rattle.st_pages.specs.Attempt.{Array, Attempt}
use Rattle.st_pages.specs.Reading.{ForEach}
use Rattle.st_pages.specs.declared.places.Place.{Place}
use Rattle.st_store.specs.Chain.{IsChainPage, IsWay, LeadTo, is_on_chain, rows_in}
use Rattle.st_store.proofs.Ordering.{all-left, pairs-left}
use Rattle.st_chain.specs.declared.walk.Spot.{Spot}
use Rattle.st_chain.specs.Walks.{HasCome, IsLocated}
use Rattle.st_chain.specs.Ways.{lead-last, rows-append}
use Rattle.st_chain.specs.Counted.{way-reached}

front-sound : (o : Option ℕ) (place : Place) (array : Array) (pages : List ℕ) (end : ℕ) → MatchOption o (pages ≡ []) (λ page. (front : List ℕ) × (pages ≡ front ++ page ∷ [])) → LeadTo place array place.first pages end
    → IfSome o (λ page. IsChainPage place (array page))
front-sound None place array pages end behind leads = tt
front-sound (Some page) place array pages end behind leads = (lead-last place array place.first behind.0 page end (subst (λ (ps : List ℕ). LeadTo place array place.first ps end) behind.1 leads)).1

pub front-kind : (place : Place) (array : Array) (key : List ℕ) (spot : Spot) (image : List ℕ) → IsLocated place array key spot image → IfSome spot.previous (λ page. kind_of (array page) ≡ 2)
front-kind place array key spot image located =
    kinds spot.previous (front-sound spot.previous place array located.come.pages spot.page located.come.behind located.come.way.leads)
  where
    kinds : (o : Option ℕ) → IfSome o (λ page. IsChainPage place (array page)) → IfSome o (λ page. kind_of (array page) ≡ 2)
    kinds None sound = tt
    kinds (Some page) sound = sound.has_header.kind

-- ---- it may be asked for

way-front : (place : Place) (array : Array) (front : List ℕ) (previous end : ℕ) → IsWay place array (front ++ previous ∷ []) end → IsWay place array front previous
way-front place array front previous end way = record {
  leads = (lead-last place array place.first front previous end way.leads).0;
  filled = filled-front (λ page. not (count_of (array page) == 0)) front previous way.filled;
  ascend = pairs-left (row_before place.key) (rows_in place array front) (rows_in place array (previous ∷ []))
      (ap (ascends (row_before place.key)) (sym (rows-append place array front (previous ∷ []))) ∙ way.ascend);
}
  where
    filled-front : (test : ℕ → Bool) (front : List ℕ) (previous : ℕ) → list_all test (drop 1 (front ++ previous ∷ [])) ≡ true → list_all test (drop 1 front) ≡ true
    filled-front test [] previous h = refl
    filled-front test (page ∷ front) previous h = all-left test front (previous ∷ []) h

front-of : (o : Option ℕ) (place : Place) (array : Array) (pages : List ℕ) (end : ℕ) → MatchOption o (pages ≡ []) (λ page. (front : List ℕ) × (pages ≡ front ++ page ∷ [])) → IsWay place array pages end
    → IfSome o (λ page. IsTrue (is_on_chain place array page))
front-of None place array pages end behind way = tt
front-of (Some page) place array pages end behind way =
    way-reached place array behind.0 page (way-front place array behind.0 page end (subst (λ (ps : List ℕ). IsWay place array ps end) behind.1 way))

pub front-reached : (place : Place) (array : Array) (key : List ℕ) (spot : Spot) (image : List ℕ) → HasCome place array key spot image → IfSome spot.previous (λ page. IsTrue (is_on_chain place array page))
front-reached place array key spot image come = front-of spot.previous place array come.pages spot.page come.behind come.way

pub if-each : (old new : Attempt) (o : Option ℕ) (Holds : ℕ → Array → Type 0) → ForEach old new (λ array. IfSome o (λ page. Holds page array)) → IfSome o (λ page. ForEach old new (λ array. Holds page array))
if-each old new None Holds h = tt
if-each old new (Some page) Holds h = h
