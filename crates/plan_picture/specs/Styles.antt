-- The look of a picture: the style of each class, the shapes of the marks, letters and colours.
use Rattle.std.specs.Prelude.{ℕ, List, codes}
use Rattle.plan_picture.specs.declared.styles.Style.{Style}
use Rattle.plan_picture.specs.declared.styles.Style.TheVariants as styles

unfoldable pub style : Style → List ℕ
style styles.Letters = codes " font-family='sans-serif' font-size='14'"
style styles.PairStyle = codes ">\n<style>.pairs{fill:none;stroke:#777;stroke-width:.5em;stroke-dasharray:2em 2em}"
style styles.LineStyle = codes
    ".legs{fill:none;stroke-width:1em;stroke-linejoin:round;marker-mid:url(#arrow)}.depot{stroke-width:.7em;stroke-opacity:.25}g.broken{stroke-width:1.5em;stroke-dasharray:5em 2em}"
style styles.TextStyle = codes
    ".badge{font-size:5em;font-weight:bold;fill:white}.number{font-size:4em;stroke:white;stroke-width:.3em;paint-order:stroke}.bad,text.broken{fill:#d00}.heading,.time{fill:#666}.at{font-weight:bold}"
style styles.BarStyle = codes ".drive{fill:#8bd}.wait{fill:#fc6}.serve{fill:#063}.window{fill:#999}.late{fill:#e00}</style>\n"
style styles.ArrowShape = codes
    "<defs>\n<marker id='arrow' viewBox='0 0 4 4' refX='2' refY='2' markerWidth='5' markerHeight='5' orient='auto'><path d='M0 0 4 2 0 4z' fill='context-stroke'/></marker>\n"
style styles.DepotShape = codes
    "<rect id='depot' x='-3em' y='-3em' width='6em' height='6em' transform='rotate(45)' stroke='white' stroke-width='.5em'/>\n<circle id='stop' r='2em' stroke='white' stroke-width='.5em'/>\n"
style styles.PairShapes = codes
    "<circle id='pickup' r='2.4em' fill='white' stroke='black' stroke-width='.8em'/>\n<rect id='delivery' x='-1.4em' y='-1.4em' width='2.8em' height='2.8em' stroke='white' stroke-width='.4em'/>\n"
style styles.RingShapes = codes
    "<circle id='unserved' r='4em' fill='none' stroke='#e70' stroke-width='1em' stroke-dasharray='2em 1em'/>\n<circle id='broken' r='9em' fill='none' stroke='#d00' stroke-width='2em'/>\n</defs>\n"
style styles.Paper = codes "<rect width='100%' height='100%' fill='white'/>\n"
style styles.TitleLetters = codes " font-size='20' font-weight='bold'>"
style styles.Saturation = codes ",75%,"
style styles.TickLine = codes "<rect fill='#ddd' y='1112' width='1'"
style styles.Times = codes "<g font-size='9'>\n"
