-- What an attempt knows behind a call.
use Rattle.std.proofs.Common.{◌≡◌, ℕ, ◌+◌, ◌<◌, Bool, true, false, if◌then◌else◌, ◌==◌, List, Option, Some, None, Result, Ok, Err, IfSome, refl, sym, ap, ◌∙◌, arith}
use Rattle.std.proofs.lemmas.Bool.Decides.{nat_tests}
use Rattle.std.specs.Option.{option_or}
use Rattle.st_image.specs.Fields.{blank}
use Rattle.st_edge.specs.Faults.{Rose}
use Rattle.st_page.specs.declared.fault.PageFault.{PageFault}
use Rattle.st_page.specs.declared.fault.PageFault.TheVariants.{BadPage, Conflict, Full, TooManyPages, DiskFault, Closed, Memory}
use Rattle.st_pages.specs.Attempt.{Array, Attempt, Agrees, known, saw, wrote, drew, over, image_or}
use Rattle.st_pages.specs.Calls.{Met, HandsOn, met_behind, risen}

itself : (n : ℕ) → (n == n) ≡ true
itself n = grind (arith, nat_tests)

some-is : (x y : List ℕ) → Some x ≡ Some y → x ≡ y
some-is x y e = cc

-- what is known of a page that was got
shown : (seen written : Option (List ℕ)) (image there : List ℕ) → IfSome (option_or written seen) (λ other. image ≡ other) → ((x : List ℕ) → option_or seen (Some image) ≡ Some x → there ≡ x) → image_or there written ≡ image
shown seen (Some w) image there known agrees = sym known
shown (Some s) None image there known agrees = agrees s refl ∙ sym known
shown None None image there known agrees = agrees image refl

at-page : (a : Attempt) (page : ℕ) (image : List ℕ) → (saw page image a).seen page ≡ option_or (a.seen page) (Some image)
at-page a page image = rw (itself page) refl

pub got-is : (a : Attempt) (page : ℕ) (image : List ℕ) (pages : Array) → IfSome (known a page) (λ other. image ≡ other) → Agrees (saw page image a) pages → over a pages page ≡ image
got-is a page image pages same agrees =
    shown (a.seen page) (a.written page) image (pages page) same (λ x e. agrees page x (at-page a page image ∙ e))

-- what was seen before is seen
or-some : (seen : Option (List ℕ)) (image x : List ℕ) → seen ≡ Some x → option_or seen (Some image) ≡ Some x
or-some (Some s) image x e = e
or-some None image x e = cc

kept : (b : Bool) (seen : Option (List ℕ)) (image x : List ℕ) → seen ≡ Some x → (if b then option_or seen (Some image) else seen) ≡ Some x
kept true seen image x e = or-some seen image x e
kept false seen image x e = e

pub saw-keeps : (a : Attempt) (page : ℕ) (image : List ℕ) (pages : Array) → Agrees (saw page image a) pages → Agrees a pages
saw-keeps a page image pages agrees = λ p x e. agrees p x (kept (p == page) (a.seen p) image x e)

pub drew-keeps : (a : Attempt) (page : ℕ) (pages : Array) → Agrees (drew page a) pages → Agrees a pages
drew-keeps a page pages agrees = λ p x e. agrees p x (kept (p == page) (a.seen p) blank x e)

-- what was put
put-at : (b : Bool) (there image : List ℕ) (written : Option (List ℕ)) → image_or there (if b then Some image else written) ≡ (if b then image else image_or there written)
put-at true there image written = refl
put-at false there image written = refl

pub put-is : (a : Attempt) (page : ℕ) (image : List ℕ) (pages : Array) (other : ℕ) → over (wrote page image a) pages other ≡ (if other == page then image else over a pages other)
put-is a page image pages other = put-at (other == page) (pages other) image (a.written other)

-- one more was met
rise : (b : Bool) (n m : ℕ) → (n == 18446744073709551615) ≡ b → m ≡ (if b then n else n + 1) → m < 18446744073709551615 → n < m
rise true n m b e h = grind (arith, nat_tests)
rise false n m b e h = omega (arith, e)

one-more : (old new : Met) (fault : PageFault) → new ≡ record { count = risen old.count; last = Some fault } → (new.last ≡ Some fault) × Rose old.count new.count
one-more old new fault e = (ap (λ (m : Met). m.last) e, λ h. rise (old.count == 18446744073709551615) old.count new.count refl (ap (λ (m : Met). m.count) e) h)

pub hands-on : (old new : Met) (answer : Result Unit PageFault) → new ≡ met_behind old answer → HandsOn old new answer
hands-on old new (Ok x) e = tt
hands-on old new (Err Memory) e = tt
hands-on old new (Err (BadPage page place)) e = tt
hands-on old new (Err (Conflict page holder)) e = one-more old new (Conflict page holder) e
hands-on old new (Err (Full in_use)) e = one-more old new (Full in_use) e
hands-on old new (Err (TooManyPages count)) e = one-more old new (TooManyPages count) e
hands-on old new (Err DiskFault) e = one-more old new DiskFault e
hands-on old new (Err Closed) e = one-more old new Closed e
