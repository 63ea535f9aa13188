use Rattle.session_channels.proofs.Sends.{carry_more}
use Rattle.session_channels.proofs.sending.send_one.Goals as goal

pub returns-clause-ok : goal.returns-clause-ok
returns-clause-ok c = λ of flight before routes kept.
    carry_more c.args.channels.now c.send.new.self of flight c.args.edge c.args.from c.in_ok-to.to before c.args.change kept c.send.ensures.edges c.send.ensures.width
    c.in_ok-send.ensures.ok c.requires.edge c.requires.from c.in_ok-to.ensures.within (c.in_ok-to.ensures.value of routes)
