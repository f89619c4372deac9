-- A desk on which parts change that are fit, or others, stays fit.
use Rattle.std.proofs.Common.{ℕ, List, [], ◌∷◌, Option, Some, None}
use Rattle.callbacks.specs.declared.evaluation.Told.{Told}
use Rattle.client_copies.specs.Table.{Copies, told_at}
use Rattle.client_copies.specs.declared.event.Event.{Event}
use Rattle.client_copies.specs.declared.told.Said.{Said}
use Rattle.client_copies.specs.declared.told.Said.TheVariants.{Nothing, One, Two}
use Rattle.client_core.specs.Callbacks.{all_said}
use Rattle.client_laws.specs.Bounds.CopyLaws.{told_fits}
use Rattle.client_laws.specs.Bounds.Known.{CopiesAreFit, DeskIsFit, EventIsFit, SiteIsFit}
use Rattle.client_site.specs.declared.site.Site.{Site}
use Rattle.client_steps.specs.Desks.{put_out, said_by, sent_out, site_at, told_to, with_site}
use Rattle.client_steps.specs.declared.desk.Desk.{Desk}
use Rattle.mount.specs.declared.machine.Sent.{Sent}
use Rattle.nfs_base.specs.declared.side.Side.{Side}
use Rattle.nfs_base.specs.declared.side.Side.TheVariants.{Source, Dest}
use Rattle.outbox.specs.declared.label.CallLabel.{CallLabel}

pub site_fits : (side : Side) (d : Desk) → DeskIsFit d → SiteIsFit (site_at side d)
site_fits Source d h = h.at_source
site_fits Dest d h = h.at_dest

pub sited_fits : (side : Side) (s : Site) (d : Desk) → SiteIsFit s → DeskIsFit d → DeskIsFit (with_site side s d)
sited_fits Source s d fit h = record { at_source = fit; at_dest = h.at_dest; table = h.table }
sited_fits Dest s d fit h = record { at_source = h.at_source; at_dest = fit; table = h.table }

pub copied_fits : (t : Copies) (d : Desk) → CopiesAreFit t → DeskIsFit d → DeskIsFit (record d { copies = t })
copied_fits t d fit h = record { at_source = h.at_source; at_dest = h.at_dest; table = fit }

pub said_fits : (j : ℕ) (said : Said) (d : Desk) → DeskIsFit d → DeskIsFit (said_by j said d)
said_fits j Nothing d h = h
said_fits j (One word) d h = h
said_fits j (Two first second) d h = h

pub all_said_fits : (told : List Told) (d : Desk) → DeskIsFit d → DeskIsFit (all_said told d)
all_said_fits [] d h = h
all_said_fits (one ∷ more) d h = all_said_fits more (said_by one.copy one.said d) (said_fits one.copy one.said d h)

pub told_to_fits : (j : ℕ) (event : Event) (d : Desk) → EventIsFit event → DeskIsFit d → DeskIsFit (told_to j event d)
told_to_fits j event d e h =
    said_fits j (told_at j event d.copies).0 _ (copied_fits (told_at j event d.copies).1 d (told_fits j event d.copies e h.table) h)

sent_fits : (side : Side) (label : CallLabel) (o : Option Sent) (d : Desk) → DeskIsFit d → DeskIsFit (sent_out side label o d)
sent_fits side label None d h = h
sent_fits side label (Some sent) d h = h

pub put_fits : (side : Side) (label : CallLabel) (o : Option Sent × Site) (d : Desk) → SiteIsFit o.1 → DeskIsFit d → DeskIsFit (put_out side label o d).1
put_fits side label o d fit h = sent_fits side label o.0 (with_site side o.1 d) (sited_fits side o.1 d fit h)
