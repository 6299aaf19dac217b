-- If bytes were read completely, they encode a state that satisfies its invariants, or a rule of the auditor
-- refuses them
use Rattle.std.proofs.Common.{◌≡◌, ◌≢◌, ◌⊎◌, ℕ, suc, ◌<◌, true, All, List, [], ◌∷◌, length, Option, Some, None, Result, Ok, Err, refl, ap, subst, ◌∙◌, arith, inl, inr}
use Rattle.std.specs.List.{list_all}
use Rattle.std.proofs.lemmas.Bool.{cases_lt, and_from}
use Rattle.std.proofs.lemmas.List.{get_or_past}
use Rattle.plan_types.specs.Instance.{Instance, IsInstance}
use Rattle.plan_types.specs.Laws.{PutKeepsProblemValid}
use Rattle.route_sched.specs.Route.{AreDistinctStops}
use Rattle.plan_audit.specs.Locality.{SubjectsHaveVerdicts, RoutesHaveAnswers, PassesDecidesTheVerdict, FeasibleAloneDecidesFeasibility, PinsAreDistinctStops}
use Rattle.plan_audit.specs.Passes.{feasible_alone, passes}
use Rattle.plan_audit.specs.Verdict.{planned, IsVerdict}
use Rattle.plan_audit.specs.declared.rules.Verdict.{Verdict}
use Rattle.plan_audit.specs.declared.rules.Verdict.TheVariants.{Pass, Broken}
use Rattle.command_types.specs.Job.{JobValue, IsJob}
use Rattle.command_types.specs.States.{IsState}
use Rattle.command_types.specs.declared.states.State.{State}
use Rattle.command_types.specs.declared.states.State.TheVariants.{Empty, Loaded}
use Rattle.state_codec.specs.declared.version.Version.{Version}
use Rattle.state_codec.specs.declared.fault.CodecFault.{CodecFault}
use Rattle.state_codec.specs.declared.fault.CodecFault.TheVariants.{Truncated, BadField, PlanRefused, OutOfMemory}
use Rattle.state_codec.specs.Bytes.{state_bytes}
use Rattle.state_codec.specs.Limits.{IsStateOf}
use Rattle.state_codec.specs.Laws.{BytesAreDecided}
use Rattle.state_codec.specs.Reading.{whole_state_at}
use Rattle.state_codec.specs.DecodeResults.{Decodes, IsPlanRefused, IsPinRefused, IsRefused}
use Rattle.state_codec.proofs.FieldLaws.{IsBytes}
use Rattle.state_codec.proofs.ExtraByteLaws.{whole_faults}
use Rattle.state_codec.proofs.JobLaws.{whole_takes, IsReadJob}
use Rattle.state_codec.proofs.ProblemLaws.{whole_problem}

module _ (verdict : SubjectsHaveVerdicts) (answers : RoutesHaveAnswers) (pass : PassesDecidesTheVerdict) (feasible : FeasibleAloneDecidesFeasibility) (once : PinsAreDistinctStops) where
  split_stops : (p : Instance) (pin : List ℕ) (pins : List (List ℕ)) → All (AreDistinctStops p) (pin ∷ pins) → AreDistinctStops p pin × All (AreDistinctStops p) pins
  split_stops p pin pins h = (h 0 [] (omega arith), λ k d lt. h (suc k) d (omega (arith, lt)))

  pins_decided : (p : Instance) (pins : List (List ℕ)) → All (AreDistinctStops p) pins → (list_all (feasible_alone p) pins ≡ true) ⊎ ((rule : ℕ) × IsPinRefused p pins rule)
  pins_decided p [] known = inl refl
  pins_decided p (pin ∷ pins) known =
      let parts = split_stops p pin pins known in
      elim (answers p pin parts.0) [
        | inl ok ↦ (elim (pins_decided p pins parts.1) [
          | inl more ↦ inl (and_from (feasible_alone p pin) (list_all (feasible_alone p) pins) ((feasible p pin).1 ok) more)
          | inr more ↦ inr (more.0, inr (ok, more.1))
        ])
        | inr fault ↦ inr (fault.0, inl fault.1)
      ]

  plan_decided : (p : Instance) (pins routes : List (List ℕ)) → IsInstance p → (passes p pins routes ≡ true) ⊎ ((rule : ℕ) × IsPlanRefused p pins routes rule)
  plan_decided p pins routes valid = by (verdict.0 p (planned routes pins), verdict.1 p (planned routes pins) valid)
    where
      by : (v : Verdict) × IsVerdict p (planned routes pins) v → (passes p pins routes ≡ true) ⊎ ((rule : ℕ) × IsPlanRefused p pins routes rule)
      by (Pass cost, is) = inl ((pass p pins routes).1 (subst (λ c. IsVerdict p (planned routes pins) (Pass c)) is.1 is))
      by (Broken rule r i n, is) = inr (rule, (r, i, n, is))

  job_decided : (v : Version) (j : JobValue) → IsInstance j.problem → IsReadJob v j → IsJob j ⊎ ((rule : ℕ) × IsRefused j rule)
  job_decided v j valid known = elim (plan_decided j.problem j.pins j.plan valid) [
    | inr r ↦ inr (r.0, inl r.1)
    | inl plan ↦ (elim (pins_decided j.problem j.pins (once j.problem j.pins j.plan plan)) [
      | inr r ↦ inr (r.0, inr (inl (plan, r.1)))
      | inl pins ↦ (elim (plan_decided j.problem j.pins j.work valid) [
        | inr r ↦ inr (r.0, inr (inr (plan, pins, r.1)))
        | inl work ↦ inl (record { problem = valid; fleet = known.fleet; pins = pins; plan = plan; work = work; deviation = known.deviation; seed = known.seed; steps = known.steps })
      ])
    ])
  ]

  module _ (puts : PutKeepsProblemValid) where
    fits_of : (bytes : List ℕ) → All (λ b. b < 256) bytes → IsBytes bytes
    fits_of bytes h i = elim (cases_lt i (length bytes)) [
      | inl lt ↦ h i 0 lt
      | inr le ↦ rw (get_or_past bytes i 0 le) (omega arith)
    ]

    pub decided : BytesAreDecided
    decided v bytes all = by_answer (whole_state_at v bytes) refl
      where
        fits : IsBytes bytes
        fits = fits_of bytes all

        by_answer : (r : Result (Option JobValue) CodecFault) → whole_state_at v bytes ≡ r
            → ((s : State) × IsState s × IsStateOf v s × (bytes ≡ state_bytes v s)) ⊎ ((fault : CodecFault) × (fault ≢ OutOfMemory) × Decodes v bytes (Err fault))
        by_answer (Err f) e = elim (whole_faults v bytes f e) [
          | inl t ↦ inr (Truncated, (λ c. absurd cc), e ∙ ap Err t)
          | inr t ↦ inr (BadField, (λ c. absurd cc), e ∙ ap Err t)
        ]
        by_answer (Ok None) e = let k = whole_takes v bytes fits None e in inl (Empty, tt, tt, k.0)
        by_answer (Ok (Some j)) e =
            let k = whole_takes v bytes fits (Some j) e in
            elim (job_decided v j (whole_problem puts v bytes fits j e) k.1) [
              | inl is ↦ inl (Loaded j, is, k.1.of, k.0)
              | inr r ↦ inr (PlanRefused r.0, (λ c. absurd cc), (j, e, k.0, k.1.of, r.1))
            ]
