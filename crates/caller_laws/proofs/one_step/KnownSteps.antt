-- What is known of every step of every mount, from the laws below.
use Rattle.std.proofs.Common.{ℕ, List, Option}
use Rattle.caller_laws.proofs.one_step.Knowing.{Keeping, Obeying}
use Rattle.caller_laws.proofs.one_step.RunFacts.{Known}
use Rattle.caller_laws.specs.Duties.{SendsOwnCalls}
use Rattle.caller_laws.specs.Good.{Identity}
use Rattle.caller_laws.specs.Lawful.{IsStep}
use Rattle.caller_laws.specs.Moves.{Again, Begin, BeginAnew, Finish, InSlot, Make, Move, Reclaim, SetUp, done}
use Rattle.caller_laws.specs.OneStep.Counting.{Counted}
use Rattle.caller_laws.specs.View.{Above}
use Rattle.gss_ctx.specs.Seals.{Mic}
use Rattle.mount.specs.Laws.{Went}
use Rattle.mount.specs.Sending.{begun, begun_anew, child_asked, ended_in, name_under, sent_again, slotted, stepped_in}
use Rattle.mount.specs.State.{Mounted, root_name}
use Rattle.mount.specs.Taking.{Means}
use Rattle.mount.specs.declared.calling.Ending.{Ending}
use Rattle.mount.specs.declared.machine.SendAt.{SendAt}
use Rattle.mount.specs.declared.state.Aim.{Aim}
use Rattle.mount.specs.declared.state.Aim.TheVariants as aims
use Rattle.session_calls.specs.declared.slot_call.SlotCall.{SlotCall}
use Rattle.session_calls.specs.declared.slot_call.SlotCall.TheVariants.{ReclaimComplete}
use Rattle.session_calls.specs.declared.sole_call.BackChannel.{BackChannel}

pub record Goings : Type 0 where
  pub begin : (at : SendAt) (nonce : List ℕ) (token : Option (List ℕ)) (m : Mounted) → Went at m (begun at nonce token m)
  pub anew : (at : SendAt) (m : Mounted) → Went at m (begun_anew at m)
  pub step : (mic : Mic) (at : SendAt) (principal : List ℕ) (back : Option BackChannel) (m : Mounted) → Went at m (stepped_in mic at principal back m.standing m)
  pub slot : (mic : Mic) (at : SendAt) (context : Option ℕ) (aim : Aim) (call : SlotCall) (m : Mounted) → Went at m (slotted mic at context aim call m)
  pub create : (mic : Mic) (at : SendAt) (child : ℕ) (name privilege : List ℕ) (m : Mounted) → Went at m (child_asked mic at child name privilege m)
  pub end : (mic : Mic) (at : SendAt) (ending : Ending) (m : Mounted) → Went at m (ended_in mic at ending m.standing m)
  pub again : (mic : Mic) (at : SendAt) (m : Mounted) → Went at m (sent_again mic at m)

pub went : Goings → Counted
went goings mic at (Begin nonce token) m = goings.begin at nonce token m
went goings mic at BeginAnew m = goings.anew at m
went goings mic at (SetUp principal back) m = goings.step mic at principal back m
went goings mic at Reclaim m = goings.slot mic at (root_name m.standing) aims.Setup ReclaimComplete m
went goings mic at (InSlot under call) m = goings.slot mic at (name_under under m) aims.Slot call m
went goings mic at (Make child name privilege) m = goings.create mic at child name privilege m
went goings mic at (Finish ending) m = goings.end mic at ending m
went goings mic at Again m = goings.again mic at m

pub known_of : (who : Identity) (means : Means) → Counted → Obeying who means → Keeping who means
    → ((a b : Above) (m : Mounted) (move : Move) → IsStep who means a b m move → SendsOwnCalls a b (done means move m).shown) → Known who means
known_of who means counted obeys keeps calls = record { obeys = obeys; keeps = keeps; calls = calls; went = counted means.mic }
