use Rattle.std.proofs.Common.{◌≡◌, ℕ, ◌<◌, ◌++◌, false, Err, Ok, Some, List, [], ◌∷◌, refl, sym, ap, ◌∙◌, subst, arith, append-nil}
use Rattle.std.specs.List.{All}
use Rattle.std.proofs.lemmas.List.Elements.{All-nil}
use Rattle.st_values.specs.declared.value.Value.{Value}
use Rattle.st_values.specs.Order.{same_entity}
use Rattle.st_keys.specs.Keys.{Fits, IsEntity}
use Rattle.st_lattice.specs.Outline.{Outline, attribute}
use Rattle.st_rows.specs.Rows.{pair_width}
use Rattle.st_state.specs.State.{Pair}
use Rattle.st_store.specs.Rows.{rows_from}
use Rattle.st_database.specs.Touches.{Touches}
use Rattle.st_standing.specs.Standing.{triples_of, value_rows}
use Rattle.st_standing.proofs.RowLaws.{RowLaws}
use Rattle.st_standing.proofs.OfKind.{live-entity}
use Rattle.st_lookups.specs.declared.sets.Owned.{Owned}
use Rattle.st_lookups.specs.Looks.{AreMembers, Finds, IsMember, first_entity, taken_from, values_with}
use Rattle.st_lookups.proofs.Membered.{least-key, of-set, set-sound, set-values, zeros-taken}
use Rattle.st_lookups.proofs.Walked.{TookRows}
use Rattle.st_lookups.proofs.sets.members_at.Goals as goal

pub put_front-requires-clause-zeros : goal.put_front-requires-clause-zeros
put_front-requires-clause-zeros g c = zeros-taken c.pair_width.result 262

Told : Owned → Owned → List (List ℕ) → Type 0
Told before after rows = (after.attribute.now ≡ before.attribute.now) × (after.entity ≡ before.entity) × ((pairs : List Pair) × AreMembers before.attribute.now.kind rows pairs × (after.values ≡ before.values ++ values_with before.entity pairs))

pub returns-in-Ok-clause-finds : goal.returns-in-Ok-clause-finds
unfolding Told
returns-in-Ok-clause-finds g c =
    let laws : RowLaws = record {
      key_width = c.laws_of_keys.ensures.width;
      key_order = c.laws_of_keys.ensures.order;
      width = c.laws_of_rows.ensures.width;
      pair_width = c.laws_of_rows.ensures.pair_width;
      pairs = c.laws_of_rows.ensures.pairs;
      serials = c.laws_of_rows.ensures.serials;
    } in
    let A = g.P.Pages.attempt c.args.pages.now in
    let B = g.P.Pages.attempt c.walk.new.pages in
    let asked = g.P.Pages.asked c.args.pages.now c.walk.new.pages in
    let x = c.args.attribute.now in
    let e = c.args.entity in
    let schema = c.args.schema.now in
    let place = c.args.place in
    let laid = c.requires.laid in
    let key = c.put_front.new.into in
    let begun : Owned = record { schema = c.args.schema; attribute = c.args.attribute; entity = e; values = c.new.result } in
    let new = c.walk.new.visit in
    let goes : List ℕ → _ = λ row. same_entity (first_entity row) e in
    let T : List (List ℕ) → Type 0 = TookRows Told begun new in
    λ places at array s agrees same stands has.
    let there = ap (λ (o : Outline). attribute o x.number) same ∙ c.requires.there in
    let found = of-set g.S.Store.holds A B schema places x place (λ array rows. All (IsMember schema x) rows → Finds asked A B array (λ _. T (taken_from goes (rows_from place.key key rows))) (place.store ∷ []) (Ok c.in-Ok.field-0)) c.requires.there
    at laid.0 c.in-Ok.ensures.finds array s agrees same stands
    (subst (λ (o : Outline). All (IsMember o x) (value_rows x.kind (triples_of x.number s.triples))) same (set-sound s stands.legal x.number x there stands.program)) in
    let told = found.answers begun [] (refl, refl, ([], record { rows_are = refl; fit = All-nil (λ (p : Pair). Fits x.kind p.value); entities = All-nil (λ (p : Pair). IsEntity p.entity) }, sym (append-nil begun.values))) in
    let are = subst (λ (k : ℕ). AreMembers x.kind (taken_from goes (rows_from k key (value_rows x.kind (triples_of x.number s.triples)))) told.2.0) laid.1.key told.2.1 in
    let zeros = ap (Rattle.std.proofs.Common.take (pair_width x.kind)) c.put_front.ensures ∙ least-key x.kind e in
    record {
      answers = told.2.2 ∙ ap (λ (l : List Value). l ++ values_with e told.2.0) c.new.ensures
          ∙ set-values s stands.legal x.number x there laws c.laws_of_rows.ensures.one_spelling stands.program e (live-entity s stands.program.entities e has.live) key zeros told.2.0 are;
      sound = tt;
      touches = subst (λ (l : List ℕ). Touches asked A B array l false 0 0) (ap (λ (n : ℕ). n ∷ []) laid.0) found.touches;
    }

pub returns-in-Err-clause-finds : goal.returns-in-Err-clause-finds
unfolding Told
returns-in-Err-clause-finds g c =
    let A = g.P.Pages.attempt c.args.pages.now in
    let B = g.P.Pages.attempt c.walk.new.pages in
    let asked = g.P.Pages.asked c.args.pages.now c.walk.new.pages in
    let x = c.args.attribute.now in
    let e = c.args.entity in
    let schema = c.args.schema.now in
    let place = c.args.place in
    let laid = c.requires.laid in
    let key = c.put_front.new.into in
    let begun : Owned = record { schema = c.args.schema; attribute = c.args.attribute; entity = e; values = c.new.result } in
    let goes : List ℕ → _ = λ row. same_entity (first_entity row) e in
    let T : List (List ℕ) → Type 0 = TookRows Told begun c.walk.new.visit in
    λ places at array s agrees same stands has.
    let there = ap (λ (o : Outline). attribute o x.number) same ∙ c.requires.there in
    let found = of-set g.S.Store.holds A B schema places x place (λ array rows. All (IsMember schema x) rows → Finds {A = Unit {0}} asked A B array (λ _. T (taken_from goes (rows_from place.key key rows))) (place.store ∷ []) (Err c.in-Err.fault)) c.requires.there
    at laid.0 c.in-Err.ensures.finds array s agrees same stands
    (subst (λ (o : Outline). All (IsMember o x) (value_rows x.kind (triples_of x.number s.triples))) same (set-sound s stands.legal x.number x there stands.program)) in
    record {
      answers = tt;
      sound = found.sound;
      touches = subst (λ (l : List ℕ). Touches asked A B array l false 0 0) (ap (λ (n : ℕ). n ∷ []) laid.0) found.touches;
    }
