-- `purlthicket_dim` meets its contract: the number of what `answer_record` answers.
use Rattle.std.proofs.Common.{sym, ◌∙◌, ap}
use Rattle.std.specs.Prelude.{Result, Ok, ⊤}
use Rattle.monomials.specs.Refusal.{refusal}
use Rattle.monomials.specs.declared.refusal.Refusal.{Refusal}
use Rattle.records.specs.Host.{host_checks}
use Rattle.records.proofs.HostCall.{done_number, refused_number}
use Rattle.records.proofs.host.purlthicket_dim.Goals as goal

pub returns-in-Ok-clause-value : goal.returns-in-Ok-clause-value
returns-in-Ok-clause-value c = done_number (refusal (host_checks 255 60 65536 26 c.args.rec.now c.args.out.now)) (sym c.in-Ok.is ∙ c.answer_record.ensures.value)

pub returns-in-Err-clause-value : goal.returns-in-Err-clause-value
returns-in-Err-clause-value c =
    c.number_of.ensures ∙ refused_number (refusal (host_checks 255 60 65536 26 c.args.rec.now c.args.out.now)) c.in-Err.refusal (sym c.in-Err.is ∙ c.answer_record.ensures.value)
