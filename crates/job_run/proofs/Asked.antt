-- The outcome of words, by what they ask for.
use Rattle.std.proofs.Common.{◌≡◌, ℕ, List, Option, Some, ap, ◌∙◌}
use Rattle.command_line.specs.declared.words.FileNames.{FileNames}
use Rattle.command_line.specs.declared.words.Request.{Request}
use Rattle.command_line.specs.declared.words.Request.TheVariants.{Run, Batch, Explain, Load}
use Rattle.command_line.specs.Requests.{names_view, request_view}
use Rattle.command_line.specs.Words.{request_of}
use Rattle.ct_io.specs.Holdings.{Holdings}
use Rattle.job_run.specs.Outcome.{batch_named, explain_script, load_of, outcome, run_named, with_request, with_script}

module _ (words : List (List ℕ)) (request : Request) (asked : request_of words ≡ Some (request_view request)) where
  pub of_run : (names : FileNames) (order : Option (List ℕ)) → request ≡ Run names order → (h : Holdings) → outcome words h ≡ run_named (names_view names) order h
  of_run names order is h = ap (with_request h) (asked ∙ ap (λ (r : Request). Some (request_view r)) is)

  pub of_batch : (names : FileNames) (first : Option ℕ) → request ≡ Batch names first → (h : Holdings) → outcome words h ≡ batch_named (names_view names) first h
  of_batch names first is h = ap (with_request h) (asked ∙ ap (λ (r : Request). Some (request_view r)) is)

  pub of_explain : (name : List ℕ) → request ≡ Explain name → (h : Holdings) → outcome words h ≡ with_script h name explain_script
  of_explain name is h = ap (with_request h) (asked ∙ ap (λ (r : Request). Some (request_view r)) is)

  pub of_load : (seed lines : ℕ) → request ≡ Load seed lines → (h : Holdings) → outcome words h ≡ load_of seed lines
  of_load seed lines is h = ap (with_request h) (asked ∙ ap (λ (r : Request). Some (request_view r)) is)
