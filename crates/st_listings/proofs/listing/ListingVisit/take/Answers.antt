use Rattle.std.proofs.Common.{◌≡◌, ◌++◌, ◌∷◌, [], List, ℕ, ◌∙◌}
use Rattle.st_known.specs.declared.known.Known.{Known}
use Rattle.st_lookups.proofs.Membered.{on-ok}
use Rattle.st_listings.specs.declared.listing.Listing.{Listing}
use Rattle.st_listings.specs.Listings.{AreRead, known_of}
use Rattle.st_listings.proofs.Reading.{read-told}
use Rattle.st_listings.proofs.listing.ListingVisit.take.Goals as goal

pub returns-in-Ok-clause-told : goal.returns-in-Ok-clause-told
returns-in-Ok-clause-told c =
    let old = c.args.self.now in
    let new = c.keep_row.new.self in
    let n = c.in-Ok.serial in
    let cells = c.in-Ok.cells in
    let row = c.args.row.now in
    on-ok (new.known ≡ old.known ++ known_of old.schema.now old.ty n cells ∷ [])
    ((before : Listing) (rows : List (List ℕ)) → (old.schema.now ≡ before.schema.now) × (old.ty ≡ before.ty) × ((read : List Known) × AreRead before.schema.now before.ty rows read × (old.known ≡ before.known ++ read))
    → (new.schema.now ≡ before.schema.now) × (new.ty ≡ before.ty) × ((read : List Known) × AreRead before.schema.now before.ty (rows ++ row ∷ []) read × (new.known ≡ before.known ++ read)))
    c.keep_row.result
    (λ kept before rows told.
    let schema : new.schema.now ≡ old.schema.now = λ i. (c.keep_row.ensures.schema i).now in (
      schema ∙ told.0,
      c.keep_row.ensures.ty ∙ told.1,
      read-told before.schema.now old.schema.now before.ty old.ty before.known old.known new.known rows n cells row told.0 told.1 told.2 c.in-Ok.ensures.held c.in-Ok.ensures.bytes kept,
    ))
    c.keep_row.ensures.known
