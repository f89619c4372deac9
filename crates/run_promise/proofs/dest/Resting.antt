-- In a step in which a destination does nothing its copies stay as they are, and its volume rests.
use Rattle.std.proofs.Common.{◌≡◌, ◌∙◌, ⊎_elim, ℕ, suc, ◌<◌, ◌≤◌, Bool, true, false, List, [], Option, Some, None, refl, sym, ap, subst}
use Rattle.std.specs.Prelude.{◌||◌, map}
use Rattle.std.specs.List.{list_any}
use Rattle.std.proofs.lemmas.Bool.{cases_lt}
use Rattle.copy_model.specs.Effect as effects
use Rattle.copy_model.specs.Job.{Entry, Plan}
use Rattle.dest_core.specs.Stepping.{DestState, DestStep}
use Rattle.dest_laws.specs.Histories.Linked.{GoOn, IsSeenAs, IsShown, Planned, looked_up, name_at}
use Rattle.dest_laws.specs.Histories.Seen.{Seen, seen_in}
use Rattle.dest_laws.specs.View.Steps.{Shows, ShowsStep, part_by, table_in}
use Rattle.dest_laws.specs.View.View.{made_in, plan_seen}
use Rattle.nfs_base.specs.declared.job.JobName.{JobName}
use Rattle.nfs_base.specs.declared.seal.End.TheVariants.{Dest}
use Rattle.outbox.specs.declared.outgoing.Outgoing.{Outgoing}
use Rattle.server_volume.specs.declared.used.Used.{Used}
use Rattle.wire_lines.specs.declared.letters.Speaker.{Speaker}
use Rattle.wire_machine.specs.History.{Place, deed_by, effect_of, is_call, is_reported, landing_in, reports, says_stable, sent_of}
use Rattle.wire_model.specs.Copies.{Job as Copy, Plain}
use Rattle.wire_model.specs.Meaning.{Meaning}
use Rattle.wire_model.specs.Spelling.{Spelling}
use Rattle.wire_model.specs.System.{System}
use Rattle.wire_model.specs.Wire.{Acts, Executed}

-- ---- copies that are the same in each part

abbrev copy_by : Plan → List Entry → (retired lost stable : Bool) → Copy
copy_by plan entries retired lost stable = record { plan = plan; entries = entries; retired = retired; lost = lost; stable = stable }

same_copy : (a b : Copy) → a.plan ≡ b.plan → a.entries ≡ b.entries → a.retired ≡ b.retired → a.lost ≡ b.lost → a.stable ≡ b.stable → a ≡ b
same_copy a b plan entries retired lost stable =
    ap (λ (x : Plan). copy_by x a.entries a.retired a.lost a.stable) plan
    ∙ (ap (λ (x : List Entry). copy_by b.plan x a.retired a.lost a.stable) entries
    ∙ (ap (λ (x : Bool). copy_by b.plan b.entries x a.lost a.stable) retired
    ∙ (ap (λ (x : Bool). copy_by b.plan b.entries b.retired x a.stable) lost
    ∙ ap (λ (x : Bool). copy_by b.plan b.entries b.retired b.lost x) stable)))

-- what is shown and goes on as it is, is the same
stays : (plan_of : Planned) (o : Option Seen) (old new : Copy) → IsShown plan_of o old → IsSeenAs (looked_up plan_of o old) new → new.stable ≡ old.stable → new ≡ old
stays plan_of None old new shown like stable = same_copy new old like.plan like.entries (like.retired ∙ sym shown) like.lost stable
stays plan_of (Some s) old new shown like stable = same_copy new old (like.plan ∙ sym shown.1) (like.entries ∙ sym shown.2) like.retired like.lost stable

or_none : (b : Bool) → (b || false) ≡ b
or_none true = refl
or_none false = refl

deed_rests : (call : Bool) (o : Option Place) → deed_by call effects.Rests o ≡ Plain effects.Rests
deed_rests true None = refl
deed_rests true (Some place) = refl
deed_rests false None = refl
deed_rests false (Some place) = refl

-- ---- the step

module _ {M : Type 0} (spell : Spelling) (meaning : Meaning) (s : System) (k : ℕ) (took : Option (List ℕ)) (speaker : Speaker) (executed : Option Executed)
    (d : DestState M) (t : DestStep M) (shows : ShowsStep spell meaning s k took speaker executed d t) (used : t.out.used ≡ []) where
  pub deed : s.deed k ≡ Plain effects.Rests
  deed =
      shows.deed
      ∙ (ap (λ (calls : List Used). deed_by (is_call (part_by took speaker t)) (effect_of t.host.state.machine.store.volume calls) (landing_in t.out.notes)) used
      ∙ deed_rests (is_call (part_by took speaker t)) (landing_in t.out.notes))

  module _ (same : t.host ≡ d) (sent : t.out.sent ≡ []) (none : executed ≡ None) where
    told_none : (name : JobName) → is_reported spell meaning (s.acts Dest k) name ≡ false
    told_none name =
        ap (λ (acts : Acts). is_reported spell meaning acts name) shows.acts
        ∙ (ap (λ (outs : List Outgoing). list_any (reports spell meaning name) (map sent_of outs) || says_stable meaning name executed) sent
        ∙ ap (λ (o : Option Executed). false || says_stable meaning name o) none)

    then_shown : Shows s (suc k) d
    then_shown = subst (λ (x : DestState M). Shows s (suc k) x) same shows.after

    goes_on : GoOn plan_seen (table_in d) (table_in d) (λ j. s.job k j) (λ j. s.job (suc k) j)
    goes_on = subst (λ (x : DestState M). GoOn plan_seen (table_in d) (table_in x) (λ j. s.job k j) (λ j. s.job (suc k) j)) same shows.goes

    abbrev Marked : DestState M → Type 0
    Marked x = (j : ℕ) → j < made_in x → (s.job (suc k) j).stable ≡ ((s.job k j).stable || is_reported spell meaning (s.acts Dest k) (name_at (table_in x).boot j))

    marks_stay : (j : ℕ) → j < made_in d → (s.job (suc k) j).stable ≡ (s.job k j).stable
    marks_stay j below =
        subst (λ (x : DestState M). Marked x) same shows.marked j below
        ∙ (ap (λ (b : Bool). (s.job k j).stable || b) (told_none (name_at (table_in d).boot j)) ∙ or_none (s.job k j).stable)

    pub jobs_stay : (j : ℕ) → s.job (suc k) j ≡ s.job k j
    jobs_stay j =
        ⊎_elim
        (λ (below : j < made_in d).
        stays plan_seen (seen_in (table_in d) (name_at (table_in d).boot j)) (s.job k j) (s.job (suc k) j) (shows.before.linked j below)
        (goes_on.seen_as j below) (marks_stay j below))
        (λ (high : made_in d ≤ j). then_shown.none_yet j high ∙ sym (shows.before.none_yet j high)) (cases_lt j (made_in d))
