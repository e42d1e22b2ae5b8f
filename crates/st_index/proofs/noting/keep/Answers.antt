use Rattle.std.proofs.Common.{ℕ, ◌*◌, ◌≤◌, ◌||◌, sym, subst}
use Rattle.st_pages.specs.Attempt.{over, may_put}
use Rattle.st_store.specs.Stores.{any_page, drew_between}
use Rattle.st_index.specs.Noted.{rows_for, differences}
use Rattle.st_index.proofs.Counted.{differences-none}
use Rattle.st_index.proofs.Changes.{one-row, with-row, ok-changed}
use Rattle.st_index.proofs.noting.keep.Goals as goal

pub returns-in-Null-clause-few : goal.returns-in-Null-clause-few
returns-in-Null-clause-few g c = λ pages agrees. differences-none (over (g.P.Pages.attempt c.args.pages.now) pages) (34 * rows_for c.args.value.now)

pub returns-in_default : goal.returns-in_default
returns-in_default g c =
    let attempt = g.P.Pages.attempt in
    let place = g.S.Store.location c.args.store.now in
    let one = sym (one-row c.args.value.now c.in_default.not-Null) in
    record {
      follows = c.keep_row.ensures.follows;
      met = c.keep_row.ensures.met;
      asked = λ pages agrees.
          let array = over (attempt c.args.pages.now) pages in
          subst (λ (n : ℕ). g.P.Pages.asked c.args.pages.now c.keep_row.new.pages (g.S.Store.reach place array) (λ page. g.S.Store.reach place array page || drew_between (attempt c.args.pages.now) (attempt c.keep_row.new.pages) page) (17 * n)) one (c.keep_row.ensures.asked pages agrees);
      kinds = λ puts. subst (λ (n : ℕ). g.P.Pages.asked c.args.pages.now c.keep_row.new.pages any_page (may_put (attempt c.keep_row.new.pages)) (17 * n)) one (c.keep_row.ensures.kinds puts);
      few = λ pages agrees. subst (λ (n : ℕ). differences (over (attempt c.args.pages.now) pages) (over (attempt c.keep_row.new.pages) pages) ≤ 34 * n) one (c.keep_row.ensures.few pages agrees);
      numbers = c.keep_row.ensures.numbers;
      changed = ok-changed g.S.Store.holds g.S.Store.spot g.S.Store.reach (g.P.Pages.asked c.args.pages.now c.keep_row.new.pages) place (attempt c.args.pages.now) (attempt c.keep_row.new.pages) c.keep_row.result _ _ (λ rows. with-row c.args.kind c.args.entity c.args.value.now c.in_default.not-Null rows) c.keep_row.ensures.changed;
      bad = c.keep_row.ensures.bad;
    }
