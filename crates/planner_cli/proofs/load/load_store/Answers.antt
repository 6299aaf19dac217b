-- The instance is loaded into the store in the existing file, or into one in a new file.
use Rattle.std.proofs.Common.{◌∙◌, ◌∷◌, inl, inr, refl, sym, ap}
use Rattle.file_disk.specs.declared.device_files.FileRequest.TheVariants.{Create}
use Rattle.planner_cli.proofs.load.load_store.Goals as goal

pub returns-then-needs_new_file-clause-begins : goal.returns-then-needs_new_file-clause-begins
returns-then-needs_new_file-clause-begins g c =
    let opening = c.open_store-opening in
    let made = c.open_new-opening in (
      opening.result,
      opening.ensures.opens,
      inr (
        sym c.needs_new_file.ensures ∙ c.if-needs_new_file.true,
        made.ensures.requests ∙ ap (λ requested. (Create, c.args.store.now) ∷ requested) opening.ensures.requests,
        refl,
        (made.result, made.ensures.opens, c.load_opening-reported.ensures.begins),
      ),
    )

pub returns-clause-begins : goal.returns-clause-begins
returns-clause-begins g c =
    let opening = c.open_store-opening in
    (opening.result, opening.ensures.opens, inl (sym c.needs_new_file.ensures ∙ c.if-needs_new_file.false, opening.ensures.requests, refl, c.load_opening-reported-2.ensures.begins))
