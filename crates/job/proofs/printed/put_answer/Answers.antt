use Rattle.job.proofs.PrintLaws.{prints_refusal, prints_body, prints_text}
use Rattle.job.proofs.ReadLaws.{front}
use Rattle.job.proofs.printed.put_answer.Goals as goal

pub returns-then-n-ne0 : goal.returns-then-n-ne0
returns-then-n-ne0 c = prints_refusal _ _ _ _ _ _ c.if-n-ne0.true c.put_refused.ensures

pub returns-then-hex : goal.returns-then-hex
returns-then-hex c =
    let x = c.args in
    prints_body _ _ x.out.now _ _ _ c.if-n-ne0.false _ (front x.n.length x.out.now) c.requires.0 c.requires.1 c.if-hex.true c.put_body.ensures.put c.put_body.ensures.s_len

pub returns : goal.returns
returns c =
    let x = c.args in
    prints_text _ _ x.out.now _ _ _ c.if-n-ne0.false _ (front x.n.length x.out.now) c.requires.0 c.requires.1 c.if-hex.false c.put_bytes.ensures
