use Rattle.std.proofs.Common.{[], ◌∷◌, ◌++◌, length, reverse, sym, ◌∙◌, ap, subst, ◌<◌}
use Rattle.std.specs.List.{flat_map}
use Rattle.st_sexp.specs.Flat.{all_tokens}
use Rattle.st_sexp.specs.Items.{behind}
use Rattle.st_sexp.specs.Nested.{spliced}
use Rattle.st_sexp.proofs.Descents.{one_list, one_item, fewer_with_list, fewer_with_item, was_list, was_item, same_item}
use Rattle.st_sexp.proofs.nested.spliced.Goals as goal

pub loop-form-smaller-in-Continue-branch-2 : goal.loop-form-smaller-in-Continue-branch-2
loop-form-smaller-in-Continue-branch-2 c =
    subst (λ left. length (all_tokens left) < length (all_tokens c.loop-form.work)) (sym c.in_ok-append-in-Ok.ensures)
    (fewer_with_list c.args.word.now c.loop-form.work c.pop.new.self c.in-Ok.items c.in-Some.form c.in-Some.ensures (was_list (behind c.args.word.now c.in-Some.form) c.in-Some.form c.in-Ok.items (sym c.in-Ok.ensures)))

pub loop-form-preserved-in-Continue-branch-2 : goal.loop-form-preserved-in-Continue-branch-2
loop-form-preserved-in-Continue-branch-2 c =
    ap (λ left. flat_map (spliced c.args.word.now) left ++ reverse c.loop-form.reversed) c.in_ok-append-in-Ok.ensures
    ∙ one_list c.args.word.now c.loop-form.work c.pop.new.self c.in-Ok.items (reverse c.loop-form.reversed) (spliced c.args.word.now c.args.form) c.in-Some.form c.loop-form.invariant c.in-Some.ensures
    (was_list (behind c.args.word.now c.in-Some.form) c.in-Some.form c.in-Ok.items (sym c.in-Ok.ensures))

pub loop-form-smaller : goal.loop-form-smaller
loop-form-smaller c = fewer_with_item c.loop-form.work c.pop.new.self c.in-Some.form c.in-Some.ensures

pub loop-form-preserved : goal.loop-form-preserved
loop-form-preserved c =
    let same = same_item (behind c.args.word.now c.in-Some.form) c.in-Some.form c.in-Err.item (sym c.in-Err.ensures) in
    ap (λ out. flat_map (spliced c.args.word.now) c.pop.new.self ++ reverse out) (c.in_ok-push-in-Err.ensures.ok ∙ ap (λ form. c.loop-form.reversed ++ form ∷ []) (sym same))
    ∙ one_item c.args.word.now c.loop-form.work c.pop.new.self c.loop-form.reversed (spliced c.args.word.now c.args.form) c.in-Some.form c.loop-form.invariant c.in-Some.ensures
    (was_item (behind c.args.word.now c.in-Some.form) c.in-Some.form c.in-Err.item (sym c.in-Err.ensures))
