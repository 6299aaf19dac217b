-- The first broken rule, one rule after another.
use Rattle.std.proofs.Common.{◌≡◌, ℕ, suc, ◌+◌, ◌<◌, ◌≤◌, Option, Some, None, Result, Ok, Err, refl, sym, ap, subst, ◌∙◌, inl, inr, arith, add-one, cond, eqb}
use Rattle.std.proofs.lemmas.Bool.{cases_lt}
use Rattle.std.specs.Prelude.{MatchResult}
use Rattle.plan_types.specs.Instance.{Instance, IsInstance}
use Rattle.plan_types.specs.declared.plans.Cost.{Cost}
use Rattle.plan_audit.specs.Rules.{IsNotAfter, IsMissing}
use Rattle.plan_audit.specs.FirstFault.{unserved_of}
use Rattle.plan_audit.specs.Verdict.{Subject, planned, printed, routes_of, rule_number, Breaks, KeepsRules, IsFirstBroken, IsBrokenWithin, IsVerdictWithin}
use Rattle.plan_audit.specs.declared.rules.Rule.{Rule}
use Rattle.plan_audit.specs.declared.rules.Rule.TheVariants.{UnknownStop, VisitedTwice, MissingStop, SplitPair, EarlyDelivery, Load, Late, LateReturn, Fleet, Pin, PrintedCost}
use Rattle.plan_audit.specs.declared.rules.Verdict.{Verdict}
use Rattle.plan_audit.specs.declared.rules.Verdict.TheVariants.{Pass, Broken}
use Rattle.plan_audit.proofs.FirstLemmas.{none_some}
use Rattle.plan_audit.proofs.FailingPlaces.{IsLeastOf}
use Rattle.plan_audit.proofs.RuleLemmas.{standing}
use Rattle.plan_audit.proofs.ServedLemmas.{unserved_found, unserved_nothing}

-- the rule with a number
numbered : ℕ → Rule
numbered n =
    cond (eqb n 1) UnknownStop
    (cond (eqb n 2) VisitedTwice
    (cond (eqb n 3) MissingStop
    (cond (eqb n 4) SplitPair
    (cond (eqb n 5) EarlyDelivery
    (cond (eqb n 6) Load (cond (eqb n 7) Late (cond (eqb n 8) LateReturn (cond (eqb n 9) Fleet (cond (eqb n 10) Pin PrintedCost)))))))))

numbered-is : (k : Rule) → numbered (rule_number k) ≡ k
unfolding numbered
numbered-is UnknownStop = refl
numbered-is _ = refl

pub same_rule : (k m : Rule) → rule_number k ≡ rule_number m → k ≡ m
same_rule k m e = sym (numbered-is k) ∙ ap numbered e ∙ numbered-is m

-- no rule from low on and below b is broken
unfoldable pub KeepsBelow : ℕ → ℕ → Instance → Subject → Type 0
KeepsBelow low b p s = (m : Rule) (r i n : ℕ) → low ≤ rule_number m → rule_number m < b → Breaks p s m r i n → ⊥

-- the rule is broken nowhere
abbrev pub Keeps : Instance → Subject → Rule → Type 0
Keeps p s k = (r i n : ℕ) → Breaks p s k r i n → ⊥

module _ (p : Instance) (s : Subject) where
  pub keeps_none : (low : ℕ) → KeepsBelow low low p s
  unfolding KeepsBelow
  keeps_none low m r i n from below b = omega arith

  pub keeps_more : (low : ℕ) (k : Rule) → KeepsBelow low (rule_number k) p s → Keeps p s k → KeepsBelow low (rule_number k + 1) p s
  unfolding KeepsBelow
  keeps_more low k kept one m r i n from below b = elim (cases_lt (rule_number m) (rule_number k)) [
    | inl lt ↦ kept m r i n from lt b
    | inr ge ↦ (let e : rule_number m ≡ rule_number k = omega arith in one r i n (subst (λ k. Breaks p s k r i n) (same_rule m k e) b))
  ]

  pub keeps_rules : (low high : ℕ) → KeepsBelow low (high + 1) p s → KeepsRules low high p s
  unfolding KeepsBelow
  keeps_rules low high kept m r i n from to b = kept m r i n from (omega arith) b

  pub keeps_both : (low mid high : ℕ) → KeepsRules low mid p s → KeepsRules (mid + 1) high p s → KeepsRules low high p s
  keeps_both low mid high a b m r i n from to x = elim (cases_lt mid (rule_number m)) [
    | inl lt ↦ b m r i n (omega arith) to x
    | inr ge ↦ a m r i n from ge x
  ]

  pub least_broken : (low high : ℕ) (k : Rule) (r i n : ℕ) → low ≤ rule_number k → rule_number k ≤ high → KeepsBelow low (rule_number k) p s
      → IsLeastOf (Breaks p s k) r i n → IsFirstBroken low high p s k r i n
  unfolding KeepsBelow
  least_broken low high k r i n from to kept one = record {
    from = from;
    to = to;
    broken = one.broken;
    least = λ m q j t a c b. elim (cases_lt (rule_number m) (rule_number k)) [
      | inl lt ↦ absurd (kept m q j t a lt b)
      | inr ge ↦ elim (cases_lt (rule_number k) (rule_number m)) [
        | inl lt ↦ inl lt
        | inr le ↦ (let e : rule_number k ≡ rule_number m = omega arith in inr (e, one.least q j t (subst (λ k. Breaks p s k q j t) (sym (same_rule k m e)) b)))
      ]
    ];
  }

  -- a first violation stays the first one if later rules are added
  pub broken_wider : (low mid high : ℕ) (v : Verdict) → mid ≤ high → IsBrokenWithin low mid p s v → IsBrokenWithin low high p s v
  broken_wider low mid high (Pass cost) le b = absurd b
  broken_wider low mid high (Broken rule r i n) le b =
      let least = b.2 in
      let to = least.to in (
        b.0,
        b.1,
        record {
          from = least.from;
          to = omega arith;
          broken = least.broken;
          least = λ m q j t a c x. elim (cases_lt mid (rule_number m)) [
            | inl lt ↦ inl (omega arith)
            | inr ge ↦ least.least m q j t a ge x
          ];
        },
      )

  -- a first violation stays the first one if earlier rules are added and none of them is broken
  pub broken_after : (low mid high : ℕ) (v : Verdict) → low ≤ mid + 1 → KeepsRules low mid p s → IsBrokenWithin (mid + 1) high p s v → IsBrokenWithin low high p s v
  broken_after low mid high (Pass cost) le kept b = absurd b
  broken_after low mid high (Broken rule r i n) le kept b =
      let least = b.2 in
      let from = least.from in (
        b.0,
        b.1,
        record {
          from = omega arith;
          to = least.to;
          broken = least.broken;
          least = λ m q j t a c x. elim (cases_lt mid (rule_number m)) [
            | inl lt ↦ least.least m q j t (omega arith) c x
            | inr ge ↦ absurd (kept m q j t a ge x)
          ];
        },
      )

  -- a first violation of the rules from low to high is the verdict on these rules
  pub broken_verdict : (low high : ℕ) (v : Verdict) → IsBrokenWithin low high p s v → IsVerdictWithin low high p s v
  broken_verdict low high (Pass cost) b = absurd b
  broken_verdict low high (Broken rule r i n) b = b

  -- if the earlier rules hold, the verdict on all rules is the verdict on the later ones
  pub judged_after : (low mid high : ℕ) (o : Result Cost Verdict) → low ≤ mid + 1 → KeepsRules low mid p s
      → MatchResult o (λ cost. IsVerdictWithin (mid + 1) high p s (Pass cost)) (IsBrokenWithin (mid + 1) high p s)
      → MatchResult o (λ cost. IsVerdictWithin low high p s (Pass cost)) (IsBrokenWithin low high p s)
  judged_after low mid high (Ok cost) le kept h = (keeps_both low mid high kept h.0, h.1)
  judged_after low mid high (Err v) le kept h = broken_after low mid high v le kept h

-- the verdict for a place counted from 0
pub reported_at : (low high : ℕ) (p : Instance) (s : Subject) (k : Rule) (r i n : ℕ) → IsFirstBroken low high p s k (suc r) (suc i) n
    → IsBrokenWithin low high p s (Broken (rule_number k) (r + 1) (i + 1) n)
reported_at low high p s k r i n b = (
  k,
  refl,
  subst (λ r'. IsFirstBroken low high p s k r' (i + 1) n) (sym (add-one r)) (subst (λ i'. IsFirstBroken low high p s k (suc r) i' n) (sym (add-one i)) b),
)

-- rule 3, for a plan or solution in which u is the first request that must be served and is not
module _ (p : Instance) where
  pub unserved_least : IsInstance p → (s : Subject) (u : Option ℕ) → u ≡ unserved_of p s → (n : ℕ) → u ≡ Some n → IsLeastOf (Breaks p s MissingStop) 0 0 n
  unserved_least valid (planned routes pins) u asked n is = absurd (none_some n (sym asked ∙ is))
  unserved_least valid (printed routes cost) u asked n is =
      let first = unserved_found routes p.requests n valid.ascending (sym asked ∙ is) in
      record {
        broken = inr ((refl, refl), (first.request, first.found, first.nowhere));
        least = λ q j m b. elim b as (λ _. IsNotAfter 0 0 n q j m) [
          | inl a ↦ (let t = standing routes q j a.0 a.1 in let e = t.2 in inl (omega arith))
          | inr t ↦ (let a = t.0.0 in let b = t.0.1 in inr (sym a, inr (sym b, first.least m t.1.0 t.1.1 t.1.2)))
        ];
      }

  pub missing_least : (s : Subject) (u : Option ℕ) → u ≡ unserved_of p s → u ≡ None → (r i n : ℕ) → IsLeastOf (IsMissing p (routes_of s)) r i n
      → IsLeastOf (Breaks p s MissingStop) r i n
  missing_least (planned routes pins) u asked none r i n one = record { broken = one.broken; least = one.least }
  missing_least (printed routes cost) u asked none r i n one = record {
    broken = inl (one.broken);
    least = λ q j m b. elim b as (λ _. IsNotAfter r i n q j m) [
      | inl a ↦ one.least q j m a
      | inr t ↦ absurd (unserved_nothing routes p.requests (sym asked ∙ none) m t.1.0 t.1.1 t.1.2)
    ];
  }

  pub missing_kept : (s : Subject) (u : Option ℕ) → u ≡ unserved_of p s → u ≡ None → ((r i n : ℕ) → IsMissing p (routes_of s) r i n → ⊥) → Keeps p s MissingStop
  missing_kept (planned routes pins) u asked none kept = kept
  missing_kept (printed routes cost) u asked none kept = λ r i n b. elim b [
    | inl a ↦ kept r i n a
    | inr t ↦ unserved_nothing routes p.requests (sym asked ∙ none) n t.1.0 t.1.1 t.1.2
  ]
