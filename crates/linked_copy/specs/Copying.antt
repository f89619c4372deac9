-- A copy over two links that were dialed for it: what it begins with, what was done, and what became of the links.
use Rattle.std.specs.Prelude.{◌≡◌, ◌⊎◌, ⊤, List, [], ◌∷◌}
use Rattle.outcome.specs.Causes.{Rose}
use Rattle.rpc_msg.specs.Underway.{IsFresh}
use Rattle.rpc_msg.specs.Watching.{Watch, no_signs}
use Rattle.net_links.specs.Links.{Standing, IsNew}
use Rattle.client_core.specs.State.{new_client}
use Rattle.client_leaving.specs.declared.leaving.Leaving.{Leaving}
use Rattle.client_steps.specs.declared.parting.Parting.TheVariants as partings
use Rattle.client_steps.specs.declared.setting.Setting.{Setting}
use Rattle.single_copy.specs.Copying.{Copies, Starves}
use Rattle.single_copy.specs.Turns.{Conduct, Parties, Terms, terms_of}
use Rattle.single_copy.specs.declared.answers.Copied.{Copied}
use Rattle.single_copy.specs.declared.answers.Copied.TheVariants.{Stable, Failed, LinkFault, DrawFault}

-- a client by this setting that has called nobody, and has taken no leave
abbrev pub leaving_of : {M : Type 0} → Setting M → Leaving M
leaving_of setting = record { client = new_client setting; source = partings.Done; dest = partings.Done }

-- the terms of a copy over links that are seen as they stand
abbrev pub standing_terms : {M W : Type 0} → Conduct M W → Terms Standing M W
standing_terms conduct = terms_of (λ (link : Standing). link.brings) (λ (link : Standing). link.takes) conduct

-- A link that was just dialed, and is watched from now on.
pub record IsDialed (watch : Watch Standing) : Type 0 where
  pub new : IsNew watch.link
  pub feed : IsFresh watch.feed
  pub untouched : watch ≡ record { link = watch.link; unread = []; feed = watch.feed; count = 0; sent = 0; signs = no_signs }

-- a link's count of failed takes or of failed puts rose since it was dialed
abbrev pub HasFailed : Standing → Type 0
HasFailed link = Rose 0 link.brings.faults ⊎ Rose 0 link.takes.faults

-- Both links are new, the client has called nobody, and nothing was drawn.
pub record Begins {M W : Type 0} (setting : Setting M) (draws : W) (old : Parties Standing M W) : Type 0 where
  pub source : IsDialed old.source
  pub dest : IsDialed old.dest
  pub client : old.client ≡ leaving_of setting
  pub draws_are : old.draws ≡ draws

-- A fault is answered only where a link's count of faults rose, or the draws'.
abbrev pub HasCause : {M W : Type 0} → Conduct M W → (draws : W) → Copied → (now : Parties Standing M W) → Type 0
HasCause conduct draws (Stable exact) now = ⊤
HasCause conduct draws (Failed status) now = ⊤
HasCause conduct draws (LinkFault stable) now = HasFailed now.source.link ⊎ HasFailed now.dest.link
HasCause conduct draws DrawFault now = Rose (conduct.faults draws) (conduct.faults now.draws)

-- `Hung` says of links that they were hung up.
module _ {M W : Type 0} (conduct : Conduct M W) (setting : Setting M) (draws : W) (Hung : List Standing → Type 0) where
  -- The client made the copy, with this answer, and both links were hung up as they stood then.
  pub record Made (copied : Copied) : Type 0 where
    pub old : Parties Standing M W
    pub now : Parties Standing M W
    pub begins : Begins setting draws old
    pub copies : Copies (standing_terms conduct) old copied now
    pub cause : HasCause conduct draws copied now
    pub hung : Hung (now.source.link ∷ now.dest.link ∷ [])

  -- The copy went on up to an event that found no memory, and both links were hung up as they stood then.
  pub record Starved : Type 0 where
    pub old : Parties Standing M W
    pub source : Watch Standing
    pub dest : Watch Standing
    pub client : Leaving M
    pub begins : Begins setting draws old
    pub starves : Starves (standing_terms conduct) old source dest client
    pub hung : Hung (source.link ∷ dest.link ∷ [])
