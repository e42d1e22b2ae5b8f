use Rattle.std.proofs.Common.{◌++◌, ◌∷◌, [], ◌+◌, ◌∙◌, List, ℕ, ap, arith}
use Rattle.st_new_database.specs.New.{chain_of}
use Rattle.st_new_database.proofs.Chained.{pushed-more, pushed-last}
use Rattle.st_new_database.proofs.chain.push_chain.Goals as goal

pub loop-rest-preserved : goal.loop-rest-preserved
loop-rest-preserved c =
    let before : List (List ℕ) = c.loop-rest.pages.items in (
      ap (λ (ps : List (List ℕ)). ps ++ chain_of c.args.kind c.args.unit (c.loop-rest.next + 1) c.split_at.result.1.now) c.in_ok-push.ensures.items
          ∙ ap (λ (rest : List ℕ). (before ++ c.front_page.result ∷ []) ++ chain_of c.args.kind c.args.unit (c.loop-rest.next + 1) rest) c.split_at.ensures.back
          ∙ pushed-more c.args.kind c.args.unit c.loop-rest.next c.loop-rest.rest.now c.front_page.result before _ (omega arith) c.front_page.ensures c.loop-rest.invariant.0,
      omega (arith, c.split_at.ensures.back_len, c.loop-rest.invariant.1),
    )

pub returns : goal.returns
returns c =
    c.in_ok-push-2.ensures.items
    ∙ pushed-last c.args.kind c.args.unit c.loop-rest.next c.loop-rest.rest.now c.front_page-2.result c.loop-rest.pages.items _ (omega arith) c.front_page-2.ensures c.loop-rest.invariant.0
